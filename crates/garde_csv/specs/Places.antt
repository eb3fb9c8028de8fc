-- What the places of a reading and the actions of a byte are to the toolchain's `csv`.
use Rattle.csv.specs.declared.parser.Action.{Action as CsvAction}
use Rattle.csv.specs.declared.parser.Action.TheVariants as act
use Rattle.csv.specs.declared.parser.State.{State}
use Rattle.csv.specs.declared.parser.State.TheVariants as st
use Rattle.garde_csv.specs.declared.place.Action.{Action}
use Rattle.garde_csv.specs.declared.place.Action.TheVariants as action
use Rattle.garde_csv.specs.declared.place.Place.{Place}
use Rattle.garde_csv.specs.declared.place.Place.TheVariants as place

abbrev pub state_of : Place → State
state_of place.RecordStart = st.StartRecord
state_of place.AfterReturn = st.AfterCr
state_of place.CellStart = st.StartField
state_of place.Plain = st.InField
state_of place.Quoted = st.InQuoted
state_of place.Closed = st.AfterQuote

abbrev pub action_of : Action → CsvAction
action_of action.Skip = act.Skip
action_of action.Keep = act.Copy
action_of action.EndCell = act.EndField
action_of action.EndRecord = act.EndRecord
