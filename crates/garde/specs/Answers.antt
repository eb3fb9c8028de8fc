-- What validation returns.
use Rattle.std.specs.Prelude.{◌≡◌, ⊤, ◌<◌, ◌≤◌, ◌+◌, ◌-◌, ◌^◌, ℕ, Bool, true, false, List, [], length, min, take, Result, Ok, Err, IsTrue}
use Rattle.std.specs.declared.alloc.AllocError.{AllocError}
use Rattle.garde_i18n.specs.Datum.{Datum}
use Rattle.garde_report.specs.Report.{Entry}
use Rattle.garde_report.specs.Trace.{Trace}
use Rattle.garde.specs.declared.first_error.FirstError.{FirstError}
use Rattle.garde.specs.declared.first_error.FirstError.TheVariants as firsts
use Rattle.garde.specs.declared.validate_error.ValidateError.{ValidateError}
use Rattle.garde.specs.declared.validate_error.ValidateError.TheVariants as errors
use Rattle.garde.specs.Tree.{Tree, bears, flat, first_faults, nodes, height}
use Rattle.garde.specs.Trees.{NoneBears}
use Rattle.garde.specs.Visits.{Visits}
use Rattle.garde.specs.Walk.{trace_after, MayRefuse}

-- The report is this tree read from left to right, and so many nodes were made, one for each component of the tree with a fault at
-- or under it, as far as a `usize` goes.
abbrev pub Tells : Visits → (Datum → List ℕ) → List Entry → ℕ → Tree → Type 0
Tells visits text report made t = visits.trees t × (report ≡ flat text [] t) × (made ≡ min (nodes t) (2 ^ 64 - 1))

-- The result on a new trail that made so many nodes. Ok: no tree has a fault, no node was made, and the empty report is that of a
-- tree. A report: it is that of a tree with a fault. `Memory`: there is a reason for it.
abbrev pub Headline : Visits → (Datum → List ℕ) → ℕ → Result Unit ValidateError → Type 0
Headline visits text made (Ok _) = NoneBears visits.trees × (made ≡ 0) × ((t : Tree) × Tells visits text [] made t)
Headline visits text made (Err (errors.Report report)) = (t : Tree) × Tells visits text report made t × IsTrue (bears t)
Headline visits text made (Err errors.Memory) = MayRefuse visits.trees visits.allocates 0

-- The same answer where the trail is gone.
abbrev pub Answers : Visits → (Datum → List ℕ) → Result Unit ValidateError → Type 0
Answers visits text (Ok _) = NoneBears visits.trees
Answers visits text (Err (errors.Report report)) =
    (t : Tree) × visits.trees t × IsTrue (bears t) × (report ≡ flat text [] t)
Answers visits text (Err errors.Memory) = MayRefuse visits.trees visits.allocates 0

-- The trail after a walk that ended somewhere in a tree: it has its components and its limit, its front is no smaller, and it made no
-- more nodes than all of the tree takes.
abbrev pub EndsWithin : Trace → Trace → Tree → Type 0
EndsWithin before after t =
    (after.components ≡ before.components) × (after.most ≡ before.most) × (before.front ≤ after.front)
    × (before.nodes ≤ after.nodes) × (after.nodes ≤ (trace_after before t).nodes)

-- The answer on any trail, with the trail as it was and as it is left. Each path begins with the components of the trail. At
-- `Memory` the walk ended somewhere in a tree.
abbrev pub AnswersOn : Visits → (Datum → List ℕ) → Trace → Trace → Result Unit ValidateError → Type 0
AnswersOn visits text before after (Ok _) = NoneBears visits.trees × (after ≡ before)
AnswersOn visits text before after (Err (errors.Report report)) =
    (t : Tree) × visits.trees t × IsTrue (bears t) × (report ≡ flat text before.components t) × (after ≡ trace_after before t)
AnswersOn visits text before after (Err errors.Memory) =
    MayRefuse visits.trees visits.allocates (length before.components)
    × ((t : Tree) × visits.trees t × EndsWithin before after t)

-- A walk under so many components needs no memory: the value allocates nothing, and none of its trees has a fault or is deeper than
-- eight components.
pub record NeedsNoMemory (visits : Visits) (depth : ℕ) : Type 0 where
  pub allocates_nothing : visits.allocates → ⊥
  pub none_bears : NoneBears visits.trees
  pub none_deeper : (t : Tree) → visits.trees t → depth + height t ≤ 8

-- the faults are more than so many, and these are the first of them
abbrev pub AreFirst : ℕ → List Entry → List Entry → Type 0
AreFirst most all first = (most < length all) × (first ≡ take most all)

-- The answer of at most so many faults, on any trail. `All`: the report of a tree with a fault, and it has no more than so many.
-- `First`: the first faults of a tree that has more. At `First` and at `Memory` the walk ended somewhere in what is left of a tree
-- without the faults after the first so many and one: it made no more nodes than these take. Ok is that of a whole walk.
abbrev pub AnswersFirstOn : Visits → (Datum → List ℕ) → ℕ → Trace → Trace → Result Unit FirstError → Type 0
AnswersFirstOn visits text most before after (Ok _) = AnswersOn visits text before after (Ok tt)
AnswersFirstOn visits text most before after (Err (firsts.All report)) =
    (length report ≤ most) × AnswersOn visits text before after (Err (errors.Report report))
AnswersFirstOn visits text most before after (Err (firsts.First report)) =
    (t : Tree) × visits.trees t × AreFirst most (flat text before.components t) report
    × EndsWithin before after (first_faults t (most + 1))
AnswersFirstOn visits text most before after (Err firsts.Memory) =
    MayRefuse visits.trees visits.allocates (length before.components)
    × ((t : Tree) × visits.trees t × EndsWithin before after (first_faults t (most + 1)))

-- there were more faults than were asked for
abbrev pub IsFirst : Result Unit FirstError → Type 0
IsFirst (Ok _) = ⊥
IsFirst (Err (firsts.All report)) = ⊥
IsFirst (Err (firsts.First report)) = ⊤
IsFirst (Err firsts.Memory) = ⊥

-- The same answer where the trail is gone.
abbrev pub AnswersFirst : Visits → (Datum → List ℕ) → ℕ → Result Unit FirstError → Type 0
AnswersFirst visits text most (Ok _) = Answers visits text (Ok tt)
AnswersFirst visits text most (Err (firsts.All report)) = (length report ≤ most) × Answers visits text (Err (errors.Report report))
AnswersFirst visits text most (Err (firsts.First report)) = (t : Tree) × visits.trees t × AreFirst most (flat text [] t) report
AnswersFirst visits text most (Err firsts.Memory) = Answers visits text (Err errors.Memory)

-- Whether the value has no fault: no tree has one, or some tree does; or there is a reason to run out of memory.
abbrev pub Decides : Visits → Result Bool AllocError → Type 0
Decides visits (Ok true) = NoneBears visits.trees
Decides visits (Ok false) = (t : Tree) × visits.trees t × IsTrue (bears t)
Decides visits (Err _) = MayRefuse visits.trees visits.allocates 0
