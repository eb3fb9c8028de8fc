-- The texts of faults of form in these tests.
use Rattle.std.specs.Prelude.{ℕ, List, ◌++◌, codes}
use Rattle.garde_tape.specs.declared.kind.Kind.{Kind}
use Rattle.garde_tape.specs.declared.kind.Kind.TheVariants as kinds
use Rattle.garde_schema.specs.declared.fault.Wanted.{Wanted}
use Rattle.garde_schema.specs.declared.fault.Wanted.TheVariants as wanted
use Rattle.garde_schema.specs.declared.fault.FormFault.{FormFault}
use Rattle.garde_schema.specs.declared.fault.FormFault.TheVariants as faults

abbrev pub kind_text : Kind → List ℕ
kind_text kinds.Text = codes "text"
kind_text kinds.Number = codes "number"
kind_text kinds.Boolean = codes "boolean"
kind_text kinds.Null = codes "null"
kind_text kinds.List = codes "list"
kind_text kinds.Object = codes "object"

abbrev pub wanted_text : Wanted → List ℕ
wanted_text wanted.Text = codes "text"
wanted_text wanted.Whole = codes "whole number"
wanted_text wanted.Boolean = codes "boolean"
wanted_text wanted.Null = codes "null"
wanted_text wanted.List = codes "list"
wanted_text wanted.Object = codes "object"
wanted_text wanted.OneMember = codes "object with one member"
wanted_text wanted.Character = codes "character"
wanted_text wanted.Date = codes "date"
wanted_text wanted.Time = codes "time"
wanted_text wanted.DateTime = codes "date and time"
wanted_text wanted.Timestamp = codes "timestamp"
wanted_text wanted.Ipv4 = codes "IPv4 address"
wanted_text wanted.Ipv6 = codes "IPv6 address"
wanted_text wanted.Uuid = codes "UUID"
wanted_text wanted.Version = codes "version"
wanted_text wanted.Url = codes "URL"

abbrev pub fault_text : FormFault → List ℕ
fault_text (faults.Wrong w k) = kind_text k ++ (codes " in place of " ++ wanted_text w)
fault_text (faults.OutOfRange of) = codes "out of range"
fault_text faults.Missing = codes "missing"
fault_text faults.Repeated = codes "repeated"
fault_text faults.Unknown = codes "unknown"
fault_text faults.NotOneOf = codes "not one of these"
fault_text faults.RowLength = codes "another number of fields"
