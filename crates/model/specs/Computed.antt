-- What the rows of examples compute with. A theorem over rows names `computed` on its unfolding line: every
-- definition that is named here then unfolds in it. Assumes nothing.
use Rattle.std.specs.Prelude.{ℕ}

-- The number says nothing; the names under it do.
unfoldable pub computed : ℕ
unfolding
    Rattle.laws.specs.Rows.rows Rattle.laws.specs.Rows.flat
    Rattle.laws.specs.Tests.pick Rattle.laws.specs.Tests.sames
    Rattle.laws.specs.LoopsLaws.part Rattle.laws.specs.Loops.every Rattle.laws.specs.Loops.some
    Rattle.laws.specs.Loops.only Rattle.laws.specs.Loops.keep Rattle.laws.specs.Loops.when
    Rattle.laws.specs.Loops.each Rattle.laws.specs.Loops.up_to
    Rattle.octets.specs.Little.little Rattle.octets.specs.Little.octets_of Rattle.octets.specs.Little.value
    Rattle.lines.specs.Hex.digit Rattle.lines.specs.Hex.is_hex Rattle.lines.specs.Hex.nib Rattle.lines.specs.Hex.hex_of
    Rattle.lines.specs.Hex.text_of Rattle.lines.specs.Hex.is_text Rattle.lines.specs.Hex.octets_in
    Rattle.lines.specs.HexLaws.not_lf
    Rattle.lines.specs.Frame.is_form Rattle.lines.specs.Frame.is_frame Rattle.lines.specs.Frame.is_line
    Rattle.advert.specs.Parts.parts_from Rattle.advert.specs.Parts.parts
    Rattle.advert.specs.Sections.sections Rattle.advert.specs.Sections.is_type Rattle.advert.specs.Sections.contents_of
    Rattle.advert.specs.Sections.contents
    Rattle.advert.specs.Either.both
    Rattle.advert.specs.Pattern.holds_at Rattle.advert.specs.Pattern.patterns Rattle.advert.specs.Pattern.extent
    Rattle.advert.specs.Pattern.fills Rattle.advert.specs.Pattern.patterns_form
    Rattle.advert.specs.Pattern.pattern_meets Rattle.advert.specs.Pattern.patterns_meet
    Rattle.advert.specs.Uuid.uuids Rattle.advert.specs.Uuid.lists_uuid Rattle.advert.specs.Uuid.uuid_size
    Rattle.advert.specs.Uuid.uuid_form Rattle.advert.specs.Uuid.uuid_meets
    Rattle.advert.specs.Address.address_form Rattle.advert.specs.Address.address_meets
    Rattle.advert.specs.Irk.irk_form Rattle.advert.specs.Irk.irk_meets
    Rattle.advert.specs.Condition.well_formed Rattle.advert.specs.Condition.form_of
    Rattle.advert.specs.Condition.form_status Rattle.advert.specs.Condition.meets
    Rattle.resolve.specs.Examples.sample_key
    Rattle.sessions.specs.Session.refuse_if Rattle.sessions.specs.Session.state_after
    Rattle.sessions.specs.Session.judge Rattle.sessions.specs.Session.answer Rattle.sessions.specs.Session.written
    Rattle.sessions.specs.Session.entries Rattle.sessions.specs.Session.image Rattle.sessions.specs.Session.reply
    Rattle.sessions.specs.Session.after Rattle.sessions.specs.Session.ran Rattle.sessions.specs.Session.walk
    Rattle.sessions.specs.Session.trace Rattle.sessions.specs.Session.executed Rattle.sessions.specs.Session.answers
    Rattle.sessions.specs.Session.lines_of Rattle.sessions.specs.Session.journal
    Rattle.sessions.specs.Machine.last_number
    Rattle.sessions.specs.Saved.cut_from Rattle.sessions.specs.Saved.cut Rattle.sessions.specs.Saved.with_answer
    Rattle.sessions.specs.Saved.resume Rattle.sessions.specs.Saved.replay_lines Rattle.sessions.specs.Saved.replay
    Rattle.model.specs.Rows.reply_of Rattle.model.specs.Rows.same Rattle.model.specs.Rows.imaged
    Rattle.model.specs.Rows.answered Rattle.model.specs.Rows.reached Rattle.model.specs.Rows.right
    Rattle.model.specs.Rows.all_right Rattle.model.specs.Rows.cmd Rattle.model.specs.Rows.pkt
    Rattle.model.specs.Rows.adv Rattle.model.specs.Rows.tck Rattle.model.specs.Rows.tcks
    Rattle.model.specs.Rows.quiet Rattle.model.specs.Rows.add_watch Rattle.model.specs.Rows.added0
    Rattle.model.specs.Rows.start0 Rattle.model.specs.Rows.stop0 Rattle.model.specs.Rows.report60
    Rattle.model.specs.Rows.session Rattle.model.specs.Rows.on Rattle.model.specs.Rows.on_answer
    Rattle.model.specs.Rows.add_sampled Rattle.model.specs.Rows.invalid03
    Rattle.model.specs.Rows.added1 Rattle.model.specs.Rows.added2
    Rattle.model.specs.Requests.add_equal Rattle.model.specs.Requests.report_at
    Rattle.model.specs.Requests.equal_added Rattle.model.specs.Requests.equal_start
    Rattle.model.specs.Requests.equal_low Rattle.model.specs.Requests.equal_good
    Rattle.model.specs.Requests.requests Rattle.model.specs.Requests.scn
    Rattle.model.specs.Requests.rep Rattle.model.specs.Requests.add_ff Rattle.model.specs.Requests.aa
    Rattle.model.specs.Requests.bb Rattle.model.specs.Requests.t06sizes
    Rattle.model.specs.Requests.t06events Rattle.model.specs.Requests.t06texts
    Rattle.model.specs.Requests.t06straddle Rattle.model.specs.Requests.t06off
    Rattle.model.specs.Requests.t06window Rattle.model.specs.Requests.t06start
    Rattle.model.specs.Requests.from Rattle.model.specs.Requests.rep_of
    Rattle.model.specs.Requests.evt Rattle.model.specs.Requests.add_for
    Rattle.model.specs.Requests.added_at Rattle.model.specs.Requests.evts
    Rattle.model.specs.Requests.add_commands Rattle.model.specs.Requests.adds_said
    Rattle.model.specs.Requests.crowd Rattle.model.specs.Requests.crowd_said
    Rattle.model.specs.Requests.t05full Rattle.model.specs.Requests.t05two
    Rattle.model.specs.Requests.t05first Rattle.model.specs.Requests.t05kept
    Rattle.model.specs.Requests.add_key Rattle.model.specs.Requests.t03sizes
    Rattle.model.specs.Second.add_second Rattle.model.specs.Second.zero_key
    Rattle.model.specs.Second.of_aa Rattle.model.specs.Second.of_device
    Rattle.model.specs.Second.of_key Rattle.model.specs.Second.add_plain
    Rattle.model.specs.Second.second Rattle.model.specs.Second.sent
    Rattle.model.specs.Second.t13options Rattle.model.specs.Second.t13keys
    Rattle.model.specs.Second.t13types Rattle.model.specs.Second.t13sampling
    Rattle.model.specs.Second.long_aa Rattle.model.specs.Second.t13order
    Rattle.model.specs.Second.t13peer Rattle.model.specs.Second.t13others
    Rattle.model.specs.Second.t13unheard Rattle.model.specs.Second.t13directed
    Rattle.model.specs.Second.t13window Rattle.model.specs.Second.t13twice
    Rattle.model.specs.Second.t13off Rattle.model.specs.Second.t13none
    Rattle.model.specs.Second.t13kept Rattle.model.specs.Second.seconds
    Rattle.model.specs.Types.ticks_of Rattle.model.specs.Types.device
    Rattle.model.specs.Types.device_of Rattle.model.specs.Types.watched
    Rattle.model.specs.Types.with_lists Rattle.model.specs.Types.with_filter
    Rattle.model.specs.Types.moved Rattle.model.specs.Types.fresh Rattle.model.specs.Types.blank
    Rattle.model.specs.Types.scan_text
    Rattle.model.specs.Level.level Rattle.model.specs.Level.d_bm Rattle.model.specs.Level.raised
    Rattle.model.specs.Level.signed Rattle.model.specs.Level.wrapped
    Rattle.model.specs.Level.floor_of Rattle.model.specs.Level.in_range
    Rattle.model.specs.Level.sum_in_range Rattle.model.specs.Level.add_rssi
    Rattle.model.specs.Level.mean
    Rattle.model.specs.Frames.frame_of Rattle.model.specs.Frames.raw_of
    Rattle.model.specs.Frames.read_raw Rattle.model.specs.Frames.read Rattle.model.specs.Frames.write
    Rattle.model.specs.Frames.is_command Rattle.model.specs.Frames.is_packet
    Rattle.model.specs.Frames.is_scanned Rattle.model.specs.Frames.scan_of
    Rattle.model.specs.Frames.packet_of Rattle.model.specs.Frames.is_tick
    Rattle.model.specs.Frames.typed Rattle.model.specs.Frames.has_packet
    Rattle.model.specs.Monitors.ordered Rattle.model.specs.Monitors.settings_good
    Rattle.model.specs.Monitors.condition_fault Rattle.model.specs.Monitors.fault_of
    Rattle.model.specs.Monitors.accepts Rattle.model.specs.Monitors.monitor_of
    Rattle.model.specs.Monitors.matches Rattle.model.specs.Monitors.good
    Rattle.model.specs.Monitors.strong Rattle.model.specs.Monitors.run_of
    Rattle.model.specs.Monitors.windowed Rattle.model.specs.Monitors.missing
    Rattle.model.specs.Monitors.parameters_of Rattle.model.specs.Monitors.parameters
    Rattle.model.specs.Monitors.options Rattle.model.specs.Monitors.filtering
    Rattle.model.specs.Monitors.peer_type Rattle.model.specs.Monitors.peer
    Rattle.model.specs.Monitors.irk Rattle.model.specs.Monitors.has_bit
    Rattle.model.specs.Monitors.sifts_by Rattle.model.specs.Monitors.sifts
    Rattle.model.specs.Monitors.no_option Rattle.model.specs.Monitors.no_key
    Rattle.model.specs.Monitors.two_devices Rattle.model.specs.Monitors.sampled_sifting
    Rattle.model.specs.Monitors.allowed Rattle.model.specs.Monitors.is_second
    Rattle.model.specs.Monitors.type_in Rattle.model.specs.Monitors.extra_of
    Rattle.model.specs.Monitors.meets_condition Rattle.model.specs.Monitors.admits
    Rattle.model.specs.Monitors.lets_through Rattle.model.specs.Monitors.allows
    Rattle.model.specs.Commands.table Rattle.model.specs.Commands.params_in
    Rattle.model.specs.Commands.answer_in Rattle.model.specs.Commands.present
    Rattle.model.specs.Commands.sub_of Rattle.model.specs.Commands.adds_monitor
    Rattle.model.specs.Commands.read_status Rattle.model.specs.Commands.add_status
    Rattle.model.specs.Commands.cancel_status Rattle.model.specs.Commands.enable_status
    Rattle.model.specs.Commands.status Rattle.model.specs.Commands.handle_or
    Rattle.model.specs.Commands.new_handle Rattle.model.specs.Commands.features
    Rattle.model.specs.Commands.success Rattle.model.specs.Commands.failure
    Rattle.model.specs.Commands.returned Rattle.model.specs.Commands.of_other
    Rattle.model.specs.Commands.cancelled Rattle.model.specs.Commands.added
    Rattle.model.specs.Commands.changed Rattle.model.specs.Commands.commanded
    Rattle.model.specs.Watch.with_since_good Rattle.model.specs.Watch.gathered
    Rattle.model.specs.Watch.with_ticks Rattle.model.specs.Watch.emptied
    Rattle.model.specs.Watch.with_latest Rattle.model.specs.Watch.counts
    Rattle.model.specs.Watch.refreshed Rattle.model.specs.Watch.window_takes
    Rattle.model.specs.Watch.at_packet Rattle.model.specs.Watch.duplicate
    Rattle.model.specs.Watch.remembered Rattle.model.specs.Watch.packet_move
    Rattle.model.specs.Watch.is_pair Rattle.model.specs.Watch.holds Rattle.model.specs.Watch.begins
    Rattle.model.specs.Watch.with_kept Rattle.model.specs.Watch.smaller
    Rattle.model.specs.Watch.least Rattle.model.specs.Watch.first_keeping
    Rattle.model.specs.Watch.without Rattle.model.specs.Watch.has_room Rattle.model.specs.Watch.fits
    Rattle.model.specs.Watch.goes_for Rattle.model.specs.Watch.stays_for
    Rattle.model.specs.Watch.stop_of Rattle.model.specs.Watch.turn_answer
    Rattle.model.specs.Watch.turns_answer Rattle.model.specs.Watch.start_pair
    Rattle.model.specs.Watch.start_like Rattle.model.specs.Watch.start_of
    Rattle.model.specs.Watch.starts_below Rattle.model.specs.Watch.turn
    Rattle.model.specs.Watch.turns Rattle.model.specs.Watch.packet_pairs
    Rattle.model.specs.Watch.starts_of Rattle.model.specs.Watch.is_reason
    Rattle.model.specs.Watch.reason_for Rattle.model.specs.Watch.allows_by
    Rattle.model.specs.Watch.start_told Rattle.model.specs.Watch.reported
    Rattle.model.specs.Watch.packet_answer Rattle.model.specs.Watch.goes_on
    Rattle.model.specs.Watch.closes Rattle.model.specs.Watch.window_tick
    Rattle.model.specs.Watch.at_tick Rattle.model.specs.Watch.tick_pairs
    Rattle.model.specs.Watch.window_says Rattle.model.specs.Watch.tick_octets
    Rattle.model.specs.Watch.tick_answer Rattle.model.specs.Watch.keeps
    Rattle.model.specs.Events.complete Rattle.model.specs.Events.event
    Rattle.model.specs.Events.start_event Rattle.model.specs.Events.stop_event
    Rattle.model.specs.Events.report Rattle.model.specs.Events.packet_report
    Rattle.model.specs.Events.window_report Rattle.model.specs.Events.scan_report
    Rattle.model.specs.Events.packet_reports
    Rattle.model.specs.Step.step_typed Rattle.model.specs.Step.answer_typed
    Rattle.model.specs.Step.refusal_typed Rattle.model.specs.Step.act_typed
    Rattle.model.specs.Step.act
    Rattle.model.specs.Sound.octets_up_to Rattle.model.specs.Sound.sound_settings
    Rattle.model.specs.Sound.sound_monitor Rattle.model.specs.Sound.sound_extra
    Rattle.model.specs.Sound.sound_monitors Rattle.model.specs.Sound.sound_window
    Rattle.model.specs.Sound.sound_empty Rattle.model.specs.Sound.sound_latest
    Rattle.model.specs.Sound.sound_fields Rattle.model.specs.Sound.sound_of
    Rattle.model.specs.Sound.sound_pair Rattle.model.specs.Sound.apart
    Rattle.model.specs.Sound.sound_model
    Rattle.model.specs.Image.head_row Rattle.model.specs.Image.monitor_row
    Rattle.model.specs.Image.extra_text Rattle.model.specs.Image.name_of
    Rattle.model.specs.Image.monitor_text Rattle.model.specs.Image.pair_row
    Rattle.model.specs.Image.end_row Rattle.model.specs.Image.records
    Rattle.model.specs.Image.image_text Rattle.model.specs.Image.monitor_in
    Rattle.model.specs.Image.extra_in Rattle.model.specs.Image.monitor_from
    Rattle.model.specs.Image.monitor_on Rattle.model.specs.Image.pair_in
    Rattle.model.specs.Image.has_name Rattle.model.specs.Image.rows_named
    Rattle.model.specs.Image.is_monitor Rattle.model.specs.Image.monitors_on
    Rattle.model.specs.Image.first_of Rattle.model.specs.Image.model_in
    Rattle.model.specs.Image.held_in Rattle.model.specs.Image.is_image
    Rattle.model.specs.Image.read_image
    Rattle.model.specs.Quoted.codes
    Rattle.model.specs.InFull.ticks_text Rattle.model.specs.InFull.hci_events
    Rattle.model.specs.InFull.answer_lines Rattle.model.specs.InFull.ran_through
    Rattle.model.specs.InFull.saves Rattle.model.specs.InFull.pictured
    Rattle.model.specs.InFull.replayed Rattle.model.specs.InFull.told_right
    Rattle.model.specs.InFull.in_full
computed = 0
