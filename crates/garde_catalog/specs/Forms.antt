-- The text of a catalog for each fault of form.
use Rattle.std.specs.Prelude.{ℕ, List, codes}
use Rattle.garde_schema.specs.declared.fault.FormFault.{FormFault}
use Rattle.garde_schema.specs.declared.fault.FormFault.TheVariants as faults
use Rattle.garde_schema.specs.declared.fault.Wanted.{Wanted}
use Rattle.garde_schema.specs.declared.fault.Wanted.TheVariants as wants
use Rattle.garde_schema.specs.declared.fault.Integer.{Integer}
use Rattle.garde_schema.specs.declared.fault.Integer.TheVariants as integers
use Rattle.garde_schema.specs.FormText.{form_name}
use Rattle.garde_catalog.specs.Catalog.{put_both, word_at}
use Rattle.garde_catalog.specs.declared.catalog.Catalog.{Catalog}
use Rattle.garde_catalog.specs.Messages.{place_of}

-- the code of the message that something else is wanted
abbrev pub wanted_message : Wanted → List ℕ
wanted_message wants.Text = codes "not_text"
wanted_message wants.Whole = codes "not_whole"
wanted_message wants.Boolean = codes "not_boolean"
wanted_message wants.Null = codes "not_null"
wanted_message wants.List = codes "not_list"
wanted_message wants.Object = codes "not_object"
wanted_message wants.OneMember = codes "not_one_member"
wanted_message wants.Character = codes "not_character"
wanted_message wants.Date = codes "not_date"
wanted_message wants.Time = codes "not_time"
wanted_message wants.DateTime = codes "not_date_time"
wanted_message wants.Timestamp = codes "not_timestamp"
wanted_message wants.Ipv4 = codes "not_ipv4"
wanted_message wants.Ipv6 = codes "not_ipv6"
wanted_message wants.Uuid = codes "not_uuid"
wanted_message wants.Version = codes "not_version"
wanted_message wants.Url = codes "not_url"

-- the least number of a type, in decimal
abbrev pub least_of : Integer → List ℕ
least_of integers.U8 = codes "0"
least_of integers.U16 = codes "0"
least_of integers.U32 = codes "0"
least_of integers.U64 = codes "0"
least_of integers.U128 = codes "0"
least_of integers.I8 = codes "-128"
least_of integers.I16 = codes "-32768"
least_of integers.I32 = codes "-2147483648"
least_of integers.I64 = codes "-9223372036854775808"
least_of integers.I128 = codes "-170141183460469231731687303715884105728"

-- the greatest
abbrev pub greatest_of : Integer → List ℕ
greatest_of integers.U8 = codes "255"
greatest_of integers.U16 = codes "65535"
greatest_of integers.U32 = codes "4294967295"
greatest_of integers.U64 = codes "18446744073709551615"
greatest_of integers.U128 = codes "340282366920938463463374607431768211455"
greatest_of integers.I8 = codes "127"
greatest_of integers.I16 = codes "32767"
greatest_of integers.I32 = codes "2147483647"
greatest_of integers.I64 = codes "9223372036854775807"
greatest_of integers.I128 = codes "170141183460469231731687303715884105727"

-- the place of the message of a fault of form: that of its code, or of what is wanted
abbrev pub form_place : FormFault → ℕ
form_place (faults.Wrong wanted found) = place_of (wanted_message wanted)
form_place fault = place_of (form_name fault)

-- the text of a fault of form: what was found is not named
abbrev pub catalog_form_text : Catalog → FormFault → List ℕ
catalog_form_text catalog (faults.OutOfRange of) =
    put_both catalog (form_place (faults.OutOfRange of)) (codes "least") (least_of of) (greatest_of of)
catalog_form_text catalog fault = word_at catalog (form_place fault)
