use Rattle.std.proofs.Common.{refl, rules}
use Rattle.std.specs.declared.alloc.AllocError.{AllocError}
use Rattle.garde_report.specs.Part.{key_part}
use Rattle.garde.specs.Visits.{under}
use Rattle.garde.proofs.Author.{is_walked, up_to_start, up_to_more, visited_entry, visited_entries}
use Rattle.garde_schema.proofs.Maps.{names_left, no_names_left}
use Rattle.garde_schema.proofs.keys.ask_each.Goals as goal

pub loop-entry-init : goal.loop-entry-init
loop-entry-init g c = up_to_start refl

pub loop-entry-preserved : goal.loop-entry-preserved
unfolding under
loop-entry-preserved g c =
    up_to_more c.loop-entry.invariant (names_left _ c.loop-entry.entry-index c.entry-item.is c.loop-entry-test.true)
    (is_walked (rw c.text.ensures at rw c.key-place.ensures at c.ask_under.ensures) (search rules))

pub returns-in_err-ask_under : goal.returns-in_err-ask_under
returns-in_err-ask_under g c = rw c.as_slice-entries.ensures at
    (visited_entry (λ name. key_part name) (λ name. g.R.Rules.asks c.args.rules.now name) c.loop-entry.invariant (names_left _ c.loop-entry.entry-index c.entry-item.is c.loop-entry-test.true)
    (rw c.text.ensures at rw c.key-place.ensures at c.ask_under.ensures) (search rules) c.from_residual.ensures.0)

pub returns : goal.returns
returns g c = rw c.as_slice-entries.ensures at
    (visited_entries {E = AllocError} (λ name. key_part name) (λ name. g.R.Rules.asks c.args.rules.now name) c.loop-entry.invariant (no_names_left _ c.loop-entry.entry-index c.loop-entry-test.false))
