-- Names of 16-bit UUIDs (docs/FORMATS.md, Names of UUIDs): a table for each more significant octet that has any, its
-- rows by the less significant one. Definitions, and how long a name is at most. Assumes nothing.
use Rattle.std.specs.Prelude.{ℕ, List, [], ◌∷◌, eqb}
use Rattle.laws.specs.Tests.{pick}
use Rattle.names.specs.Names.{Row, named}

-- services that are adopted: 0x18
unfoldable pub service_rows : List Row
service_rows =
    record { number = 0; name = "Generic Access" }
    ∷ record { number = 1; name = "Generic Attribute" }
    ∷ record { number = 2; name = "Immediate Alert" }
    ∷ record { number = 3; name = "Link Loss" }
    ∷ record { number = 4; name = "Tx Power" }
    ∷ record { number = 5; name = "Current Time" }
    ∷ record { number = 6; name = "Reference Time Update" }
    ∷ record { number = 7; name = "Next DST Change" }
    ∷ record { number = 8; name = "Glucose" }
    ∷ record { number = 9; name = "Health Thermometer" }
    ∷ record { number = 10; name = "Device Information" }
    ∷ record { number = 13; name = "Heart Rate" }
    ∷ record { number = 14; name = "Phone Alert Status" }
    ∷ record { number = 15; name = "Battery" }
    ∷ record { number = 16; name = "Blood Pressure" }
    ∷ record { number = 17; name = "Alert Notification" }
    ∷ record { number = 18; name = "Human Interface Device" }
    ∷ record { number = 19; name = "Scan Parameters" }
    ∷ record { number = 20; name = "Running Speed and Cadence" }
    ∷ record { number = 21; name = "Automation IO" }
    ∷ record { number = 22; name = "Cycling Speed and Cadence" }
    ∷ record { number = 24; name = "Cycling Power" }
    ∷ record { number = 25; name = "Location and Navigation" }
    ∷ record { number = 26; name = "Environmental Sensing" }
    ∷ record { number = 27; name = "Body Composition" }
    ∷ record { number = 28; name = "User Data" }
    ∷ record { number = 29; name = "Weight Scale" }
    ∷ record { number = 30; name = "Bond Management" }
    ∷ record { number = 31; name = "Continuous Glucose Monitoring" }
    ∷ record { number = 32; name = "Internet Protocol Support" }
    ∷ record { number = 33; name = "Indoor Positioning" }
    ∷ record { number = 34; name = "Pulse Oximeter" }
    ∷ record { number = 35; name = "HTTP Proxy" }
    ∷ record { number = 36; name = "Transport Discovery" }
    ∷ record { number = 37; name = "Object Transfer" }
    ∷ record { number = 38; name = "Fitness Machine" }
    ∷ record { number = 39; name = "Mesh Provisioning" }
    ∷ record { number = 40; name = "Mesh Proxy" }
    ∷ record { number = 41; name = "Reconnection Configuration" }
    ∷ record { number = 58; name = "Insulin Delivery" }
    ∷ record { number = 59; name = "Binary Sensor" }
    ∷ record { number = 60; name = "Emergency Configuration" }
    ∷ record { number = 61; name = "Authorization Control" }
    ∷ record { number = 62; name = "Physical Activity Monitor" }
    ∷ record { number = 63; name = "Elapsed Time" }
    ∷ record { number = 64; name = "Generic Health Sensor" }
    ∷ record { number = 67; name = "Audio Input Control" }
    ∷ record { number = 68; name = "Volume Control" }
    ∷ record { number = 69; name = "Volume Offset Control" }
    ∷ record { number = 70; name = "Coordinated Set Identification" }
    ∷ record { number = 71; name = "Device Time" }
    ∷ record { number = 72; name = "Media Control" }
    ∷ record { number = 73; name = "Generic Media Control" }
    ∷ record { number = 74; name = "Constant Tone Extension" }
    ∷ record { number = 75; name = "Telephone Bearer" }
    ∷ record { number = 76; name = "Generic Telephone Bearer" }
    ∷ record { number = 77; name = "Microphone Control" }
    ∷ record { number = 78; name = "Audio Stream Control" }
    ∷ record { number = 79; name = "Broadcast Audio Scan" }
    ∷ record { number = 80; name = "Published Audio Capabilities" }
    ∷ record { number = 81; name = "Basic Audio Announcement" }
    ∷ record { number = 82; name = "Broadcast Audio Announcement" }
    ∷ record { number = 83; name = "Common Audio" }
    ∷ record { number = 84; name = "Hearing Access" }
    ∷ record { number = 85; name = "Telephony and Media Audio" }
    ∷ record { number = 86; name = "Public Broadcast Announcement" }
    ∷ record { number = 87; name = "Electronic Shelf Label" }
    ∷ record { number = 88; name = "Gaming Audio" }
    ∷ record { number = 89; name = "Mesh Proxy Solicitation" }
    ∷ []

-- UUIDs of members: 0xFC
unfoldable pub member_rows_fc : List Row
member_rows_fc =
    record { number = 152; name = "Ruuvi Innovations" }
    ∷ record { number = 177; name = "Google" }
    ∷ record { number = 178; name = "Apple" }
    ∷ record { number = 192; name = "Xiaomi" }
    ∷ record { number = 198; name = "Wiliot" }
    ∷ record { number = 204; name = "WiFi Alliance" }
    ∷ record { number = 207; name = "Google" }
    ∷ record { number = 210; name = "Allterco Robotics" }
    ∷ record { number = 241; name = "Google" }
    ∷ record { number = 246; name = "The Linux Foundation" }
    ∷ []

-- 0xFD
unfoldable pub member_rows_fd : List Row
member_rows_fd =
    record { number = 3; name = "Quuppa" }
    ∷ record { number = 13; name = "Blecon" }
    ∷ record { number = 29; name = "Samsung Electronics" }
    ∷ record { number = 45; name = "Xiaomi" }
    ∷ record { number = 54; name = "Google" }
    ∷ record { number = 61; name = "Woan Technology" }
    ∷ record { number = 67; name = "Apple" }
    ∷ record { number = 68; name = "Apple" }
    ∷ record { number = 75; name = "Samsung Electronics" }
    ∷ record { number = 80; name = "Hangzhou Tuya Information Technology" }
    ∷ record { number = 89; name = "Samsung Electronics" }
    ∷ record { number = 90; name = "Samsung Electronics" }
    ∷ record { number = 98; name = "Fitbit" }
    ∷ record { number = 99; name = "Fitbit" }
    ∷ record { number = 105; name = "Samsung Electronics" }
    ∷ record { number = 108; name = "Samsung Electronics" }
    ∷ record { number = 111; name = "Apple, Exposure Notification" }
    ∷ record { number = 126; name = "Samsung Electronics" }
    ∷ record { number = 132; name = "Tile" }
    ∷ record { number = 135; name = "Google" }
    ∷ record { number = 140; name = "Google" }
    ∷ record { number = 150; name = "Google" }
    ∷ record { number = 158; name = "The Coca-Cola Company" }
    ∷ record { number = 170; name = "Xiaomi" }
    ∷ record { number = 171; name = "Xiaomi" }
    ∷ record { number = 175; name = "Wiliot" }
    ∷ record { number = 189; name = "Clover Network" }
    ∷ record { number = 205; name = "Qingping Technology" }
    ∷ record { number = 219; name = "Samsung Electronics" }
    ∷ record { number = 226; name = "Google" }
    ∷ record { number = 240; name = "Google" }
    ∷ []

-- 0xFE
unfoldable pub member_rows_fe : List Row
member_rows_fe =
    record { number = 0; name = "Amazon" }
    ∷ record { number = 3; name = "Amazon" }
    ∷ record { number = 8; name = "Microsoft" }
    ∷ record { number = 19; name = "Apple" }
    ∷ record { number = 21; name = "Amazon" }
    ∷ record { number = 25; name = "Google" }
    ∷ record { number = 37; name = "Apple" }
    ∷ record { number = 38; name = "Google" }
    ∷ record { number = 39; name = "Google" }
    ∷ record { number = 44; name = "Google, Fast Pair" }
    ∷ record { number = 51; name = "Chipolo" }
    ∷ record { number = 66; name = "Nets" }
    ∷ record { number = 80; name = "Google" }
    ∷ record { number = 85; name = "Google" }
    ∷ record { number = 86; name = "Google" }
    ∷ record { number = 88; name = "Nordic Semiconductor" }
    ∷ record { number = 89; name = "Nordic Semiconductor" }
    ∷ record { number = 97; name = "Logitech International" }
    ∷ record { number = 101; name = "Chipolo" }
    ∷ record { number = 106; name = "Kontakt Micro-Location" }
    ∷ record { number = 121; name = "Zebra Technologies" }
    ∷ record { number = 138; name = "Apple" }
    ∷ record { number = 139; name = "Apple" }
    ∷ record { number = 149; name = "Xiaomi" }
    ∷ record { number = 154; name = "Estimote" }
    ∷ record { number = 159; name = "Google" }
    ∷ record { number = 160; name = "Google" }
    ∷ record { number = 170; name = "Google, Eddystone" }
    ∷ record { number = 178; name = "Microsoft" }
    ∷ record { number = 189; name = "Clover Network" }
    ∷ record { number = 199; name = "Apple" }
    ∷ record { number = 200; name = "Apple" }
    ∷ record { number = 201; name = "Apple" }
    ∷ record { number = 202; name = "Apple" }
    ∷ record { number = 203; name = "Apple" }
    ∷ record { number = 204; name = "Apple" }
    ∷ record { number = 205; name = "Apple" }
    ∷ record { number = 206; name = "Apple" }
    ∷ record { number = 207; name = "Apple" }
    ∷ record { number = 208; name = "Apple" }
    ∷ record { number = 209; name = "Apple" }
    ∷ record { number = 210; name = "Apple" }
    ∷ record { number = 211; name = "Apple" }
    ∷ record { number = 212; name = "Apple" }
    ∷ record { number = 216; name = "Google" }
    ∷ record { number = 228; name = "Nordic Semiconductor" }
    ∷ record { number = 229; name = "Nordic Semiconductor" }
    ∷ record { number = 236; name = "Tile" }
    ∷ record { number = 237; name = "Tile" }
    ∷ record { number = 243; name = "Google" }
    ∷ record { number = 244; name = "Google" }
    ∷ record { number = 245; name = "Dialog Semiconductor" }
    ∷ record { number = 249; name = "PayPal" }
    ∷ record { number = 250; name = "PayPal" }
    ∷ record { number = 252; name = "Gimbal" }
    ∷ record { number = 253; name = "Gimbal" }
    ∷ []

-- UUIDs of other standards: 0xFF
unfoldable pub standard_rows : List Row
standard_rows =
    record { number = 242; name = "Aliro" }
    ∷ record { number = 243; name = "FiRa Consortium" }
    ∷ record { number = 244; name = "FiRa Consortium" }
    ∷ record { number = 245; name = "Car Connectivity Consortium" }
    ∷ record { number = 246; name = "Matter" }
    ∷ record { number = 247; name = "Zigbee Direct" }
    ∷ record { number = 248; name = "Mopria Alliance" }
    ∷ record { number = 249; name = "FIDO2 client-to-authenticator transport" }
    ∷ record { number = 250; name = "ASTM Remote ID" }
    ∷ record { number = 251; name = "Direct Thread Commissioning" }
    ∷ record { number = 252; name = "Wireless Power Transfer" }
    ∷ record { number = 253; name = "Universal Second Factor Authenticator" }
    ∷ record { number = 254; name = "Wireless Power Transfer" }
    ∷ []

-- the name of a 16-bit UUID by its two octets; none where it is not in the tables
unfoldable pub uuid_name : ℕ → ℕ → List ℕ
uuid_name high low =
    pick (eqb high 24) (named service_rows low)
    (pick (eqb high 252) (named member_rows_fc low) (pick (eqb high 253) (named member_rows_fd low) (
    pick (eqb high 254) (named member_rows_fe low) (pick (eqb high 255) (named standard_rows low) []))))
