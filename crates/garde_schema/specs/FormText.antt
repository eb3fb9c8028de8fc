-- What is said of each fault of form: its text in English, and its code.
use Rattle.std.specs.Prelude.{ℕ, List, codes}
use Rattle.garde_schema.specs.declared.fault.FormFault.{FormFault}
use Rattle.garde_schema.specs.declared.fault.FormFault.TheVariants as faults
use Rattle.garde_schema.specs.declared.fault.Wanted.{Wanted}
use Rattle.garde_schema.specs.declared.fault.Wanted.TheVariants as wants
use Rattle.garde_schema.specs.declared.fault.Integer.{Integer}
use Rattle.garde_schema.specs.declared.fault.Integer.TheVariants as integers

-- that something else is wanted, in English
abbrev pub wanted_text : Wanted → List ℕ
wanted_text wants.Text = codes "not a text"
wanted_text wants.Whole = codes "not a whole number"
wanted_text wants.Boolean = codes "not true or false"
wanted_text wants.Null = codes "not null"
wanted_text wants.List = codes "not a list"
wanted_text wants.Object = codes "not an object"
wanted_text wants.OneMember = codes "not an object with one member"
wanted_text wants.Character = codes "not a character"
wanted_text wants.Date = codes "not a date"
wanted_text wants.Time = codes "not a time"
wanted_text wants.DateTime = codes "not a date and time"
wanted_text wants.Timestamp = codes "not a timestamp"
wanted_text wants.Ipv4 = codes "not an IPv4 address"
wanted_text wants.Ipv6 = codes "not an IPv6 address"
wanted_text wants.Uuid = codes "not a UUID"
wanted_text wants.Version = codes "not a version"
wanted_text wants.Url = codes "not a URL"

-- the name of what is wanted
abbrev pub wanted_code : Wanted → List ℕ
wanted_code wants.Text = codes "Text"
wanted_code wants.Whole = codes "Whole"
wanted_code wants.Boolean = codes "Boolean"
wanted_code wants.Null = codes "Null"
wanted_code wants.List = codes "List"
wanted_code wants.Object = codes "Object"
wanted_code wants.OneMember = codes "OneMember"
wanted_code wants.Character = codes "Character"
wanted_code wants.Date = codes "Date"
wanted_code wants.Time = codes "Time"
wanted_code wants.DateTime = codes "DateTime"
wanted_code wants.Timestamp = codes "Timestamp"
wanted_code wants.Ipv4 = codes "Ipv4"
wanted_code wants.Ipv6 = codes "Ipv6"
wanted_code wants.Uuid = codes "Uuid"
wanted_code wants.Version = codes "Version"
wanted_code wants.Url = codes "Url"

-- that a whole number is not one of those of this type, which are named, in English
abbrev pub range_text : Integer → List ℕ
range_text integers.U8 = codes "out of range: 0 to 255"
range_text integers.U16 = codes "out of range: 0 to 65535"
range_text integers.U32 = codes "out of range: 0 to 4294967295"
range_text integers.U64 = codes "out of range: 0 to 18446744073709551615"
range_text integers.U128 = codes "out of range: 0 to 340282366920938463463374607431768211455"
range_text integers.I8 = codes "out of range: -128 to 127"
range_text integers.I16 = codes "out of range: -32768 to 32767"
range_text integers.I32 = codes "out of range: -2147483648 to 2147483647"
range_text integers.I64 = codes "out of range: -9223372036854775808 to 9223372036854775807"
range_text integers.I128 = codes "out of range: -170141183460469231731687303715884105728 to 170141183460469231731687303715884105727"

-- the name of a type of whole numbers
abbrev pub integer_code : Integer → List ℕ
integer_code integers.U8 = codes "u8"
integer_code integers.U16 = codes "u16"
integer_code integers.U32 = codes "u32"
integer_code integers.U64 = codes "u64"
integer_code integers.U128 = codes "u128"
integer_code integers.I8 = codes "i8"
integer_code integers.I16 = codes "i16"
integer_code integers.I32 = codes "i32"
integer_code integers.I64 = codes "i64"
integer_code integers.I128 = codes "i128"

-- the text of a fault of form, in English: what was found is not told
abbrev pub default_form_text : FormFault → List ℕ
default_form_text (faults.Wrong wanted found) = wanted_text wanted
default_form_text (faults.OutOfRange integer) = range_text integer
default_form_text faults.Missing = codes "missing"
default_form_text faults.Repeated = codes "repeated"
default_form_text faults.Unknown = codes "not known here"
default_form_text faults.NotOneOf = codes "not one of the known values"
default_form_text faults.RowLength = codes "not as many fields as in the header"

-- the code of a fault of form
abbrev pub form_name : FormFault → List ℕ
form_name (faults.Wrong wanted found) = codes "wrong_form"
form_name (faults.OutOfRange integer) = codes "out_of_range"
form_name faults.Missing = codes "member_missing"
form_name faults.Repeated = codes "member_repeated"
form_name faults.Unknown = codes "member_unknown"
form_name faults.NotOneOf = codes "value_unknown"
form_name faults.RowLength = codes "row_length"
