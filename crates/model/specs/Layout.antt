-- THE LAYOUT: the only home of the limits and of the places in the state's block and its rows. `State` in the crate
-- state has the same numbers for the code; `put_blank` leaves `padded blank` in the block, so the two cannot drift
-- apart. Document 01, Sizes of the gateway, The image. All of these unfold everywhere: arithmetic sees the numbers.
use Rattle.std.specs.Prelude.{ℕ, ◌+◌, ◌-◌, ◌*◌}
-- Sizes of the gateway: monitors 16 (handles 0 to 15) and watched pairs 64, as the rule has them
pub use Rattle.rule.specs.Radio.{most_monitors, most_pairs}
-- Lines: an address has 6 octets
pub use Rattle.resolve.specs.Resolve.{address_size}

-- Sizes of the gateway: condition 64 octets; data 31; prefix 32.
abbrev pub most_condition : ℕ
most_condition = 64

abbrev pub most_data : ℕ
most_data = 31

abbrev pub most_prefix : ℕ
most_prefix = 32

-- The head, A0's fields: position (4), filter, opcode (2), prefix length, prefix.
abbrev pub position_at : ℕ
position_at = 0

abbrev pub filter_at : ℕ
filter_at = position_at + 4

abbrev pub opcode_at : ℕ
opcode_at = filter_at + 1

abbrev pub prefix_length_at : ℕ
prefix_length_at = opcode_at + 2

abbrev pub prefix_at : ℕ
prefix_at = prefix_length_at + 1

abbrev pub head_size : ℕ
head_size = prefix_at + most_prefix

-- A row begins with its handle.
abbrev pub handle_at : ℕ
handle_at = 0

-- A monitor's row, A1's fields: handle, high, low, interval, sampling, type, condition length, condition.
abbrev pub high_at : ℕ
high_at = handle_at + 1

abbrev pub low_at : ℕ
low_at = high_at + 1

abbrev pub interval_at : ℕ
interval_at = low_at + 1

abbrev pub sampling_at : ℕ
sampling_at = interval_at + 1

abbrev pub condition_type_at : ℕ
condition_type_at = sampling_at + 1

abbrev pub condition_length_at : ℕ
condition_length_at = condition_type_at + 1

abbrev pub condition_at : ℕ
condition_at = condition_length_at + 1

-- Behind the room of the condition, what version 2 adds (document 02, T-13): Monitor_options,
-- Advertisement_report_filtering_options, Peer_device_address (6), Peer_device_address_type, Peer_device_IRK (16).
-- The places are counted from the first of them; all are 0 in version 1.
abbrev pub extra_at : ℕ
extra_at = condition_at + most_condition

abbrev pub options_in : ℕ
options_in = 0

abbrev pub filtering_in : ℕ
filtering_in = options_in + 1

abbrev pub peer_in : ℕ
peer_in = filtering_in + 1

abbrev pub peer_type_in : ℕ
peer_type_in = peer_in + address_size

abbrev pub irk_in : ℕ
irk_in = peer_type_in + 1

abbrev pub irk_size : ℕ
irk_size = 16

abbrev pub extra_size : ℕ
extra_size = irk_in + irk_size

abbrev pub monitor_size : ℕ
monitor_size = extra_at + extra_size

-- A pair's row, A3's fields: handle, address type, address, ticks since a good packet (2), ticks in the window,
-- packets (4), sum (8), kept RSSI (document 02, T-05), event type, n, data.
abbrev pub address_type_at : ℕ
address_type_at = handle_at + 1

abbrev pub address_at : ℕ
address_at = address_type_at + 1

abbrev pub since_good_at : ℕ
since_good_at = address_at + address_size

abbrev pub ticks_at : ℕ
ticks_at = since_good_at + 2

abbrev pub packets_at : ℕ
packets_at = ticks_at + 1

abbrev pub sum_at : ℕ
sum_at = packets_at + 4

abbrev pub rssi_at : ℕ
rssi_at = sum_at + 8

abbrev pub event_at : ℕ
event_at = rssi_at + 1

abbrev pub length_at : ℕ
length_at = event_at + 1

abbrev pub data_at : ℕ
data_at = length_at + 1

abbrev pub pair_size : ℕ
pair_size = data_at + most_data

-- The block: the head, the monitors' rows by handle, the pairs' rows in start order, the number of pairs.
abbrev pub monitors_at : ℕ
monitors_at = head_size

abbrev pub monitors_size : ℕ
monitors_size = monitor_size * most_monitors

abbrev pub pairs_at : ℕ
pairs_at = monitors_at + monitors_size

abbrev pub pairs_size : ℕ
pairs_size = pair_size * most_pairs

abbrev pub count_at : ℕ
count_at = pairs_at + pairs_size

abbrev pub block_size : ℕ
block_size = count_at + 1

-- the first monitor's interval and sampling period
abbrev pub intervals_at : ℕ
intervals_at = monitors_at + interval_at

abbrev pub periods_at : ℕ
periods_at = monitors_at + sampling_at

-- in a pair's row: from the ticks since a good packet, and from the packets on, up to the data's end; what an empty
-- window has 0, before the kept RSSI and behind it
abbrev pub times_size : ℕ
times_size = data_at + most_data - since_good_at

abbrev pub counts_size : ℕ
counts_size = rssi_at - ticks_at

abbrev pub latest_size : ℕ
latest_size = data_at + most_data - event_at

abbrev pub window_size : ℕ
window_size = data_at + most_data - packets_at

-- in a pair's row: from the data on, and what no field has
abbrev pub data_room : ℕ
data_room = pair_size - data_at

abbrev pub spare_size : ℕ
spare_size = data_room - most_data

-- in a monitor's row: behind the handle, and from the condition on
abbrev pub monitor_rest : ℕ
monitor_rest = monitor_size - 1

abbrev pub condition_room : ℕ
condition_room = monitor_size - condition_at

-- a row with the octet that names it: no line of an image is longer
abbrev pub line_row : ℕ
line_row = monitor_size + 1

-- all but the head
abbrev pub body_size : ℕ
body_size = block_size - head_size

-- the longest event, report, return parameters and Command Complete; what one handle's turn writes at a packet, what
-- all do (a stop event and a start event each), and with both reports; the parameters of 03 and 0F: the condition's
-- type, and the longest list that is accepted
abbrev pub event_most : ℕ
event_most = 12 + most_prefix

abbrev pub report_most : ℕ
report_most = 14 + most_data

abbrev pub return_most : ℕ
return_most = 11 + most_prefix

abbrev pub command_most : ℕ
command_most = 5 + return_most

abbrev pub turn_most : ℕ
turn_most = 2 * event_most

abbrev pub turns_most : ℕ
turns_most = turn_most * most_monitors

abbrev pub packet_most : ℕ
packet_most = turns_most + 2 * report_most

abbrev pub first_type_in : ℕ
first_type_in = 5

abbrev pub second_type_in : ℕ
second_type_in = first_type_in + extra_size

abbrev pub params_most : ℕ
params_most = second_type_in + 1 + most_condition

-- The image's lines with their LF: the octet that names a line and its fields, two characters an octet. A row of the
-- block may be longer than the fields of its line.
abbrev pub head_line : ℕ
head_line = 2 * (1 + (prefix_at + most_prefix)) + 1

abbrev pub monitor_line : ℕ
monitor_line = 2 * (1 + (condition_at + most_condition + extra_size)) + 1

abbrev pub pair_line : ℕ
pair_line = 2 * (1 + (data_at + most_data)) + 1

abbrev pub end_line : ℕ
end_line = 2 * (1 + 2) + 1

abbrev pub monitor_lines : ℕ
monitor_lines = monitor_line * most_monitors

abbrev pub pair_lines : ℕ
pair_lines = pair_line * most_pairs

abbrev pub image_most : ℕ
image_most = head_line + (monitor_lines + (pair_lines + end_line))
