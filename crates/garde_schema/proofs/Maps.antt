-- Lemmas on the reading of members of any names.
use Rattle.std.proofs.Common.{◌≡◌, ℕ, ◌+◌, ◌<◌, ◌≤◌, Bool, true, false, List, [], ◌∷◌, length, map, drop, slice_index_or, Option, Some, None, Result, Ok, Err, refl, ap, sym, subst, ◌∙◌, arith}
use Rattle.std.proofs.lemmas.Bool.{false≢true}
use Rattle.std.proofs.lemmas.List.{at_drop_more, drop_all, get_or-map, length-map}
use Rattle.std.proofs.lemmas.List.Elements.{All-nil, All-head, All-tail}
use Rattle.std.specs.BTreeSet.{BTreeSet}
use Rattle.std.specs.Borrow.{Bor}
use Rattle.std.specs.Cmp.Lexicographic.{slice_cmp}
use Rattle.std.specs.List.{All}
use Rattle.std.specs.Ordering.{nat_cmp, is_eq}
use Rattle.std.proofs.lemmas.Map.Text.{is_eq-slice_cmp}
use Rattle.std.specs.Prelude.{IfOk, IfSome, bytes_eq, cond, ◌||◌, option_map}
use Rattle.std.specs.Result.{IsErr, IsOk}
use Rattle.garde_i18n.specs.Datum.{Datum}
use Rattle.garde_report.specs.Part.{Part, key_part}
use Rattle.garde_report.specs.Report.{Entry}
use Rattle.garde_report.specs.Trace.{Trace}
use Rattle.json.specs.Json.{Json}
use Rattle.garde.specs.Visits.{Visits, Visited, Known, none, only, may_allocate, ◌and◌, under, entries}
use Rattle.garde.specs.Tree.{◌then◌}
use Rattle.garde.proofs.Author.{visited_stop, visited_as}
use Rattle.garde_schema.specs.declared.fault.FormFault.TheVariants as faults
use Rattle.garde_schema.specs.Forms.{FormTexts, forget, formed, refused, Sound}
use Rattle.garde_schema.specs.Lists.{all_values, with_last}
use Rattle.garde_schema.specs.Maps.{is_in_set, with_name, when_new, first_of_names, members_first, each_entry, entry_value, names_of}
use Rattle.garde_schema.proofs.Lemmas.{refused_is_fault, told_as}
use Rattle.garde_schema.proofs.Lists.{values_length, sound_first, refused_memory, more_memory, item_kept, item_refused, entry_then, entry_stop, entry_none}

-- ---- names

-- the next member stands before the others
pub names_next : (came after : List ℕ → Bool) (here : Bool) (left : List (List ℕ × Json)) (m : List ℕ × Json) (ms : List (List ℕ × Json)) → left ≡ m ∷ ms → here ≡ came m.0 → ((other : List ℕ) → after other ≡ with_name m.0 came other) → first_of_names came left ≡ (m.0, when_new here m.1) ∷ first_of_names after ms
names_next came after here left m ms step is same =
    ap (λ l. first_of_names came l) step
    ∙ ap (λ b. (m.0, when_new b m.1) ∷ first_of_names (with_name m.0 came) ms) (sym is)
    ∙ ap (λ f. (m.0, when_new here m.1) ∷ first_of_names f ms) (λ i other. sym (same other) i)

pub names_end : (came : List ℕ → Bool) (left : List (List ℕ × Json)) → left ≡ [] → first_of_names came left ≡ []
names_end came left end = ap (λ l. first_of_names came l) end

-- before the first member no name came
pub names_first : (came : List ℕ → Bool) (ms : List (List ℕ × Json)) → ((name : List ℕ) → came name ≡ false) → first_of_names came ms ≡ members_first ms
names_first came ms none = ap (λ f. first_of_names f ms) (λ i other. none other i)

-- a name was added to a set
pub name_added : (name other : List ℕ) (among here : Bool) (old : BTreeSet (Bor (List ℕ))) → here ≡ cond (is_eq (slice_cmp nat_cmp name other)) true (is_in_set old other) → (among || here) ≡ cond (bytes_eq name other) true (among || is_in_set old other)
name_added name other among here old is = ap (λ b. among || b) (is ∙ ap (λ b. cond b true (is_in_set old other)) (is_eq-slice_cmp name other)) ∙ or_cond among (bytes_eq name other) (is_in_set old other)
  where
    or_cond : (a b c : Bool) → (a || cond b true c) ≡ cond b true (a || c)
    or_cond true true c = refl
    or_cond true false c = refl
    or_cond false true c = refl
    or_cond false false c = refl

-- ---- values

pub if_ok_same : {A E : Type 0} (r : Result A E) {a b : A} → IfOk r (λ out. out ≡ a) → a ≡ b → IfOk r (λ out. out ≡ b)
if_ok_same (Ok x) is same = is ∙ same
if_ok_same (Err e) is same = tt

last_none : {A : Type 0} (values : Option (List A)) → with_last values None ≡ None
last_none (Some xs) = refl
last_none None = refl

pub value_repeated : {A : Type 0} (value : Json → Option A) (values : Option (List (List ℕ × A))) (name : List ℕ) (came : Bool) (j : Json) → came ≡ true → None ≡ with_last values (entry_value value (name, when_new came j))
value_repeated value values name came j is = sym (ap (λ b. with_last values (entry_value value (name, when_new b j))) is ∙ last_none values)

pub value_new : {A : Type 0} (value : Json → Option A) (values : Option (List (List ℕ × A))) (name : List ℕ) (came : Bool) (j : Json) → came ≡ false → with_last values (option_map (λ v. (name, v)) (value j)) ≡ with_last values (entry_value value (name, when_new came j))
value_new value values name came j is = ap (λ b. with_last values (entry_value value (name, when_new b j))) (sym is)

length_of_names : (came : List ℕ → Bool) (ms : List (List ℕ × Json)) → length (first_of_names came ms) ≡ length ms
length_of_names came [] = refl
length_of_names came (m ∷ ms) = let rest = length_of_names (with_name m.0 came) ms in omega (arith, rest)

-- each member has its value
pub entries_length : {A : Type 0} (value : Json → Option A) (ms : List (List ℕ × Json)) → IfSome (all_values (entry_value value) (members_first ms)) (λ out. length out ≡ length ms)
entries_length value ms = subst (λ n. IfSome (all_values (entry_value value) (members_first ms)) (λ out. length out ≡ n)) (length_of_names (λ name. false) ms) (values_length (entry_value value) (members_first ms))

-- ---- what is known

pub sound_repeated_name : {A : Type 0} (message : List ℕ) (each : Json → Visits) (keeps : A → Type 0) (value : Json → Option A) (name : List ℕ) (came : Bool) (j : Json) → came ≡ true → Sound (formed message each (when_new came j)) (λ e. keeps e.1) (entry_value value (name, when_new came j))
sound_repeated_name message each keeps value name came j is = subst (λ b. Sound (formed message each (when_new b j)) (λ e. keeps e.1) (entry_value value (name, when_new b j))) (sym is) (refused_is_fault message)

sound_named : {A : Type 0} (a : Visits) (keeps : A → Type 0) (name : List ℕ) (o : Option A) → Sound a keeps o → Sound a (λ (e : List ℕ × A). keeps e.1) (option_map (λ v. (name, v)) o)
sound_named a keeps name (Some x) sound = sound
sound_named a keeps name None sound = sound

pub sound_new_name : {A : Type 0} (message : List ℕ) (each : Json → Visits) (keeps : A → Type 0) (value : Json → Option A) (name : List ℕ) (came : Bool) (j : Json) → came ≡ false → Sound (each j) keeps (value j) → Sound (formed message each (when_new came j)) (λ e. keeps e.1) (entry_value value (name, when_new came j))
sound_new_name message each keeps value name came j is sound = subst (λ b. Sound (formed message each (when_new b j)) (λ e. keeps e.1) (entry_value value (name, when_new b j))) (sym is) (sound_named (each j) keeps name (value j) sound)

known_entries : (texts : FormTexts) (each : Json → Visits) (e : List ℕ × Option Json) (es : List (List ℕ × Option Json)) → Known (each_entry texts each (e ∷ es)) → Known (formed (texts faults.Repeated) each e.1) × Known (each_entry texts each es)
unfolding Known entries may_allocate
known_entries texts each e es known = (All-head (λ d. (formed (texts faults.Repeated) each d.1).known) e es known, All-tail (λ d. (formed (texts faults.Repeated) each d.1).known) e es known)

-- a member is sound
abbrev pub SoundEntry : {A : Type 0} → FormTexts → (Json → Visits) → (A → Type 0) → (Json → Option A) → List ℕ × Option Json → Type 0
SoundEntry texts each keeps value e = Sound (formed (texts faults.Repeated) each e.1) (λ x. keeps x.1) (entry_value value e)

-- all members are sound
pub sound_entries : {A : Type 0} (texts : FormTexts) (each : Json → Visits) (keeps : A → Type 0) (value : Json → Option A) (es : List (List ℕ × Option Json)) → All (SoundEntry texts each keeps value) es → Sound (each_entry texts each es) (λ xs. All (λ x. keeps x.1) xs) (all_values (entry_value value) es)
sound_entries texts each keeps value [] all = λ known. All-nil (λ x. keeps x.1)
sound_entries texts each keeps value (e ∷ es) all = sound_first (formed (texts faults.Repeated) each e.1) (each_entry texts each es) (each_entry texts each (e ∷ es)) (λ x. keeps x.1) (entry_value value e) (all_values (entry_value value) es) (known_entries texts each e es) (All-head (SoundEntry texts each keeps value) e es all) (sound_entries texts each keeps value es (All-tail (SoundEntry texts each keeps value) e es all))

-- ---- visits

module _ {text : Datum → List ℕ} {E : Type 0} where
  -- a value was read under its name
  pub entry_kept : {A B : Type 0} (k : Part) {p : Part} (a : Visits) (first : Result A E) (result : Result B E) {before after : Trace} {old new : List Entry} → p ≡ k → Visited (under p a) text before after old new (forget first) → IsOk first → Visited (under k (may_allocate a)) text before after old new (forget result)
  entry_kept k {p} a first result {before} {after} {old} {new} is told was = subst (λ z. Visited (under z (may_allocate a)) text before after old new (forget result)) is (item_kept p a first result told was)

  pub entry_refused : {A B : Type 0} (k : Part) {p : Part} (a : Visits) (first : Result A E) (result : Result B E) {before after : Trace} {old new : List Entry} → p ≡ k → Visited (under p a) text before after old new (forget first) → IsErr first → IsErr result → Visited (under k (may_allocate a)) text before after old new (forget result)
  entry_refused k {p} a first result {before} {after} {old} {new} is told was so = subst (λ z. Visited (under z (may_allocate a)) text before after old new (forget result)) is (item_refused p a first result told was so)

  -- a member was read whose name is new, or came before
  pub entry_new : (k : Part) (message : List ℕ) (each : Json → Visits) (came : Bool) (j : Json) {before after : Trace} {old new : List Entry} {result : Result Unit E} → came ≡ false → Visited (under k (may_allocate (each j))) text before after old new result → Visited (under k (may_allocate (formed message each (when_new came j)))) text before after old new result
  entry_new k message each came j {before} {after} {old} {new} {result} is told = subst (λ b. Visited (under k (may_allocate (formed message each (when_new b j)))) text before after old new result) (sym is) told

  pub entry_repeated : (k : Part) (message : List ℕ) (each : Json → Visits) (came : Bool) (j : Json) {before after : Trace} {old new : List Entry} {told result : Result Unit E} → came ≡ true → Visited (under k (refused message)) text before after old new told → result ≡ told → Visited (under k (may_allocate (formed message each (when_new came j)))) text before after old new result
  entry_repeated k message each came j {before} {after} {old} {new} {told} {result} is one same = subst (λ b. Visited (under k (may_allocate (formed message each (when_new b j)))) text before after old new result) (sym is) (more_memory k (refused message) (told_as (under k (refused message)) same one))

  -- memory ran out before a member was read
  memory_before : (k : Part) (a : Visits) {before after : Trace} {old new : List Entry} {result : Result Unit E} → Visited (may_allocate none and under k (may_allocate a)) text before after old new result → Visited (under k (may_allocate a)) text before after old new result
  unfolding under may_allocate none only ◌and◌
  memory_before k a told = visited_as (λ t (x, y, vx, vy, is). subst (λ s. (under k (may_allocate a)).trees s) (sym (is ∙ ap (λ z. z then y) vx)) vy) (λ h. tt) told

  no_room : (k : Part) (a : Visits) (e : E) {walk : Trace} {old : List Entry} → Visited {E = E} (under k (may_allocate a)) text walk walk old old (Err e)
  no_room k a e = memory_before k a (visited_stop (may_allocate none) (under k (may_allocate a)) {first = Err e} (refused_memory e) refl refl)

  -- the next member was read
  pub member_then : {A : Type 0} (texts : FormTexts) (each : Json → Visits) (left : List (List ℕ × Option Json)) (e : List ℕ × Option Json) (es : List (List ℕ × Option Json)) (first : Result A E) {before mid after : Trace} {old between new : List Entry} {result : Result Unit E} → left ≡ e ∷ es → Visited (under (key_part e.0) (may_allocate (formed (texts faults.Repeated) each e.1))) text before mid old between (forget first) → IsOk first → Visited (each_entry texts each es) text mid after between new result → Visited (each_entry texts each left) text before after old new result
  member_then texts each left e es (Err f) step one was rest = absurd (false≢true was)
  member_then texts each left e es (Ok x) {before} {after = after} {old} {new = new} {result = result} step one was rest =
      subst (λ l. Visited (each_entry texts each l) text before after old new result) (sym step)
      (entry_then (λ name. key_part name) (λ v. may_allocate (formed (texts faults.Repeated) each v)) e es {first = Ok tt} one refl rest)

  -- the next member was not read to its end
  pub member_stop : {A B : Type 0} (texts : FormTexts) (each : Json → Visits) (left : List (List ℕ × Option Json)) (e : List ℕ × Option Json) (es : List (List ℕ × Option Json)) (first : Result A E) (result : Result B E) {before after : Trace} {old new : List Entry} → left ≡ e ∷ es → Visited (under (key_part e.0) (may_allocate (formed (texts faults.Repeated) each e.1))) text before after old new (forget first) → IsErr first → IsErr result → Visited (each_entry texts each left) text before after old new (forget result)
  member_stop texts each left e es (Ok x) result step one was so = absurd (false≢true was)
  member_stop texts each left e es (Err f) (Ok y) step one was so = absurd (false≢true so)
  member_stop texts each left e es (Err f) (Err h) {before} {after} {old} {new} step one was so =
      subst (λ l. Visited (each_entry texts each l) text before after old new (Err h)) (sym step)
      (entry_stop (λ name. key_part name) (λ v. may_allocate (formed (texts faults.Repeated) each v)) e es {first = Err f} one refl refl)

  -- there was no memory for the name of the next member
  pub member_no_room : {B : Type 0} (texts : FormTexts) (each : Json → Visits) (came : List ℕ → Bool) (left : List (List ℕ × Json)) (m : List ℕ × Json) (ms : List (List ℕ × Json)) (result : Result B E) {walk : Trace} {old : List Entry} → left ≡ m ∷ ms → IsErr result → Visited {E = E} (each_entry texts each (first_of_names came left)) text walk walk old old (forget result)
  member_no_room texts each came left m ms (Ok y) step so = absurd (false≢true so)
  member_no_room texts each came left m ms (Err h) {walk} {old} step so =
      let e : List ℕ × Option Json = (m.0, when_new (came m.0) m.1) in
      subst (λ l. Visited {E = E} (each_entry texts each (first_of_names came l)) text walk walk old old (Err h)) (sym step)
      (entry_stop (λ name. key_part name) (λ v. may_allocate (formed (texts faults.Repeated) each v)) e (first_of_names (with_name m.0 came) ms) {first = Err h} (no_room (key_part m.0) (formed (texts faults.Repeated) each (when_new (came m.0) m.1)) h) refl refl)

  -- no member is left
  pub member_end : (texts : FormTexts) (each : Json → Visits) (left : List (List ℕ × Option Json)) {walk : Trace} {old : List Entry} → left ≡ [] → Visited {E = E} (each_entry texts each left) text walk walk old old (Ok tt)
  member_end texts each left {walk} {old} end =
      subst (λ l. Visited {E = E} (each_entry texts each l) text walk walk old old (Ok tt)) (sym end)
      (entry_none (λ name. key_part name) (λ v. may_allocate (formed (texts faults.Repeated) each v)))

  pub members_as : (texts : FormTexts) (each : Json → Visits) (left all : List (List ℕ × Option Json)) {before after : Trace} {old new : List Entry} {result : Result Unit E} → left ≡ all → Visited (each_entry texts each left) text before after old new result → Visited (each_entry texts each all) text before after old new result
  members_as texts each left all {before} {after} {old} {new} {result} is told = subst (λ l. Visited (each_entry texts each l) text before after old new result) is told

-- ---- rules of names

abbrev pub each_name : {A : Type 0} → List (List ℕ × A) → List (List ℕ × List ℕ)
each_name es = map (λ name. (name, name)) (names_of es)

length-each_name : {A : Type 0} (es : List (List ℕ × A)) → length (each_name es) ≡ length es
length-each_name es = length-map (names_of es) (λ name. (name, name)) ∙ length-map es (λ e. e.0)

-- the name of this entry is the next one
pub names_left : {A : Type 0} (es : List (List ℕ × A)) (i : ℕ) {e : List ℕ × A} → e ≡ slice_index_or es i e → i < length es → drop i (each_name es) ≡ (e.0, e.0) ∷ drop (i + 1) (each_name es)
names_left es i {e} is within =
    at_drop_more (λ ns. ns) (each_name es) i (e.0, e.0) (omega (arith, within, length-each_name es))
    ∙ ap (λ n. n ∷ drop (i + 1) (each_name es)) (get_or-map (λ name. (name, name)) (names_of es) i e.0 (e.0, e.0) (omega (arith, within, length-map es (λ x. x.0))) ∙ ap (λ name. (name, name)) (get_or-map (λ x. x.0) es i e e.0 within ∙ ap (λ x. x.0) (sym is)))

-- no name is left
pub no_names_left : {A : Type 0} (es : List (List ℕ × A)) (i : ℕ) → length es ≤ i → drop i (each_name es) ≡ []
no_names_left es i past = drop_all i (each_name es) (omega (arith, past, length-each_name es))
