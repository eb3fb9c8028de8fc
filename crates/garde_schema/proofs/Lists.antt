-- Lemmas on the reading of items.
use Rattle.std.proofs.Common.{◌≡◌, ℕ, ◌+◌, Bool, true, false, List, [], ◌∷◌, ◌++◌, length, Option, Some, None, Result, Ok, Err, refl, ap, sym, subst, ◌∙◌, inl, inr, arith, append-nil, append_assoc}
use Rattle.std.proofs.lemmas.Bool.{false≢true}
use Rattle.std.proofs.lemmas.List.Elements.{All-nil, All-cons, All-head, All-tail}
use Rattle.std.specs.List.{All, enumerate_from}
use Rattle.std.specs.Prelude.{IfSome, option_and_then}
use Rattle.std.specs.Result.{IsErr, IsOk}
use Rattle.garde_i18n.specs.Datum.{Datum}
use Rattle.garde_report.specs.Part.{Part, index_part}
use Rattle.garde_report.specs.Report.{Entry}
use Rattle.garde_report.specs.Trace.{Trace}
use Rattle.json.specs.Json.{Json}
use Rattle.garde.specs.Visits.{Visits, Visited, Known, none, only, may_allocate, ◌and◌, under, items, entries}
use Rattle.garde.specs.Laws.{Any-cons}
use Rattle.garde.specs.Tree.{Tree, nothing, fault, under as node, ◌then◌}
use Rattle.garde.proofs.Author.{visited_none, visited_then, visited_stop, visited_as, visited_numbered, is_walked}
use Rattle.garde_schema.specs.Forms.{forget, formed, Sound}
use Rattle.garde_schema.proofs.Lemmas.{refused_is_fault}
use Rattle.garde_schema.specs.Lists.{each_item, all_values, with_first, with_last}

-- ---- values

-- the values so far, and then those of the others
abbrev pub values_from : {A B : Type 0} → (B → Option A) → Option (List A) → List B → Option (List A)
values_from value so_far [] = so_far
values_from value so_far (x ∷ xs) = values_from value (with_last so_far (value x)) xs

abbrev joined : {A : Type 0} → List A → Option (List A) → Option (List A)
joined so_far (Some xs) = Some (so_far ++ xs)
joined so_far None = None

values_from_none : {A B : Type 0} (value : B → Option A) (xs : List B) → values_from value None xs ≡ None
values_from_none value [] = refl
values_from_none value (x ∷ xs) = values_from_none value xs

joined_first : {A : Type 0} (so_far : List A) (x : A) (o : Option (List A)) → joined (so_far ++ x ∷ []) o ≡ joined so_far (with_first (Some x) o)
joined_first so_far x (Some xs) = ap (λ ys. Some ys) (append_assoc so_far (x ∷ []) xs)
joined_first so_far x None = refl

values_joined_next : {A B : Type 0} (value : B → Option A) (so_far : List A) (o : Option A) (xs : List B) → ((before : List A) → values_from value (Some before) xs ≡ joined before (all_values value xs)) → values_from value (with_last (Some so_far) o) xs ≡ joined so_far (with_first o (all_values value xs))
values_joined_next value so_far (Some x) xs more = more (so_far ++ x ∷ []) ∙ joined_first so_far x (all_values value xs)
values_joined_next value so_far None xs more = values_from_none value xs

values_joined : {A B : Type 0} (value : B → Option A) (so_far : List A) (xs : List B) → values_from value (Some so_far) xs ≡ joined so_far (all_values value xs)
values_joined value so_far [] = ap (λ ys. Some ys) (sym (append-nil so_far))
values_joined value so_far (x ∷ xs) = values_joined_next value so_far (value x) xs (λ before. values_joined value before xs)

joined_nil : {A : Type 0} (o : Option (List A)) → joined [] o ≡ o
joined_nil (Some xs) = refl
joined_nil None = refl

-- before the first item nothing is there
pub values_first : {A B : Type 0} (value : B → Option A) (xs : List B) → values_from value (Some []) xs ≡ all_values value xs
values_first value xs = values_joined value [] xs ∙ joined_nil (all_values value xs)

pub values_begin : {A B : Type 0} (value : B → Option A) (so_far : List A) (xs : List B) → so_far ≡ [] → values_from value (Some so_far) xs ≡ all_values value xs
values_begin value so_far xs empty = ap (λ ys. values_from value (Some ys) xs) empty ∙ values_first value xs

pub values_next : {A B : Type 0} (value : B → Option A) (so_far now : Option (List A)) (left : List B) (x : B) (xs : List B) → left ≡ x ∷ xs → now ≡ with_last so_far (value x) → values_from value now xs ≡ values_from value so_far left
values_next value so_far now left x xs step is = ap (λ o. values_from value o xs) is ∙ sym (ap (λ l. values_from value so_far l) step)

pub values_end : {A B : Type 0} (value : B → Option A) (so_far : Option (List A)) (left : List B) {all : Option (List A)} → left ≡ [] → values_from value so_far left ≡ all → so_far ≡ all
values_end value so_far left end is = sym (ap (λ l. values_from value so_far l) end) ∙ is

-- ---- what is known

-- the first of two is sound, and so are the others
pub sound_first : {A : Type 0} (a rest both : Visits) (keeps : A → Type 0) (o : Option A) (os : Option (List A)) → (Known both → Known a × Known rest) → Sound a keeps o → Sound rest (λ xs. All keeps xs) os → Sound both (λ xs. All keeps xs) (with_first o os)
sound_first a rest both keeps (Some x) (Some xs) parts one more = λ known. All-cons keeps x xs (one (parts known).0) (more (parts known).1)
sound_first a rest both keeps (Some x) None parts one more = λ known. more (parts known).1
sound_first a rest both keeps None os parts one more = λ known. one (parts known).0

known_parts : (each : Json → Visits) (j : Json) (js : List Json) → Known (each_item each (j ∷ js)) → Known (each j) × Known (each_item each js)
unfolding Known items may_allocate
known_parts each j js known = (All-head (λ x. (each x).known) j js known, All-tail (λ x. (each x).known) j js known)

-- all items are sound
pub sound_items : {A : Type 0} (each : Json → Visits) (keeps : A → Type 0) (value : Json → Option A) (js : List Json) → All (λ x. Sound (each x) keeps (value x)) js → Sound (each_item each js) (λ xs. All keeps xs) (all_values value js)
sound_items each keeps value [] all = λ known. All-nil keeps
sound_items each keeps value (j ∷ js) all = sound_first (each j) (each_item each js) (each_item each (j ∷ js)) keeps (value j) (all_values value js) (known_parts each j js) (All-head (λ x. Sound (each x) keeps (value x)) j js all) (sound_items each keeps value js (All-tail (λ x. Sound (each x) keeps (value x)) j js all))

-- what is no list has a fault
pub sound_no_list : {A B : Type 0} (message : List ℕ) (each : B → Visits) (keeps : A → Type 0) (value : B → Option A) (o : Option B) {seen : Option B} → seen ≡ None → seen ≡ o → Sound (formed message each o) keeps (option_and_then value o)
sound_no_list message each keeps value None none is = refused_is_fault message
sound_no_list message each keeps value (Some x) none is = let never : None ≡ Some x = sym none ∙ is in cc

length_first : {A B : Type 0} (x : B) (xs : List B) (o : Option A) (os : Option (List A)) → IfSome os (λ out. length out ≡ length xs) → IfSome (with_first o os) (λ out. length out ≡ length (x ∷ xs))
length_first x xs (Some y) (Some ys) same = omega (arith, same)
length_first x xs (Some y) None same = tt
length_first x xs None os same = tt

-- each item has its value
pub values_length : {A B : Type 0} (value : B → Option A) (xs : List B) → IfSome (all_values value xs) (λ out. length out ≡ length xs)
values_length value [] = refl
values_length value (x ∷ xs) = length_first x xs (value x) (all_values value xs) (values_length value xs)

-- the count of a list
pub count_of : {A : Type 0} (o : Option (List A)) (xs : List A) (n : ℕ) {seen : Option (List A)} → seen ≡ Some xs → seen ≡ o → IfSome o (λ ys. n ≡ length ys) → n ≡ length xs
count_of o xs n some is counts = subst (λ z. IfSome z (λ ys. n ≡ length ys)) (sym is ∙ some) counts

-- rules of the list that were asked before its items
pub sound_counted : {A : Type 0} (b : Visits) (asks : ℕ → Visits) (keeps : List A → Type 0) (count : ℕ) (o : Option (List A)) → Sound b keeps o → IfSome o (λ out. length out ≡ count) → Sound (asks count and b) (λ out. Known (asks (length out)) × keeps out) o
unfolding Known ◌and◌
sound_counted b asks keeps count (Some out) sound same = λ known. (subst (λ n. (asks n).known) (sym same) known.0, sound known.1)
sound_counted b asks keeps count None sound same = λ known. sound known.1

-- what holds of the first and of the others
pub all_next : {A : Type 0} (P : A → Type 0) (left : List A) (x : A) (xs : List A) → left ≡ x ∷ xs → P x → All P xs → All P left
all_next P left x xs step one rest = subst (λ l. All P l) (sym step) (All-cons P x xs one rest)

pub all_end : {A : Type 0} (P : A → Type 0) (left : List A) → left ≡ [] → All P left
all_end P left end = subst (λ l. All P l) (sym end) (All-nil P)

-- ---- visits

then_nothing : (t : Tree) → (t then nothing) ≡ t
then_nothing nothing = refl
then_nothing (fault f t) = ap (λ s. fault f s) (then_nothing t)
then_nothing (node k s t) = ap (λ u. node k s u) (then_nothing t)

-- what is left of the items, from this number on
abbrev pub items_left : (Json → Visits) → ℕ → List Json → Visits
items_left each index left = entries index_part (λ j. may_allocate (each j)) (enumerate_from index left)

module _ {text : Datum → List ℕ} {E : Type 0} where
  -- memory ran out, and nothing was told
  pub refused_memory : {walk : Trace} {old : List Entry} (e : E) → Visited {E = E} (may_allocate none) text walk walk old old (Err e)
  unfolding may_allocate none only
  refused_memory {old = old} e = record {
    ok = tt;
    err = record {
      tree = nothing;
      visited = refl;
      said = [];
      unsaid = [];
      cut = refl;
      report = sym (append-nil old);
      fits = omega arith;
      components = refl;
      limit = refl;
      front = omega arith;
      nodes = omega arith;
      most = omega arith;
    };
    why = inl tt;
  }

  -- what may allocate besides
  pub more_memory : (k : Part) (a : Visits) {before after : Trace} {old new : List Entry} {result : Result Unit E} → Visited (under k a) text before after old new result → Visited (under k (may_allocate a)) text before after old new result
  unfolding under may_allocate
  more_memory k a told = visited_as (λ t v. v) (λ h. tt) told

  memory_after : (k : Part) (a : Visits) {before after : Trace} {old new : List Entry} {result : Result Unit E} → Visited (under k a and may_allocate none) text before after old new result → Visited (under k (may_allocate a)) text before after old new result
  unfolding under may_allocate none only ◌and◌
  memory_after k a told = visited_as (λ t (x, y, vx, vy, is). subst (λ s. (under k a).trees s) (sym (is ∙ ap (λ z. x then z) vy ∙ then_nothing x)) vx) (λ h. tt) told

  -- an item was read, and its value is kept, or memory runs out
  pub item_kept : {A B : Type 0} (k : Part) (a : Visits) (first : Result A E) (result : Result B E) {before after : Trace} {old new : List Entry} → Visited (under k a) text before after old new (forget first) → IsOk first → Visited (under k (may_allocate a)) text before after old new (forget result)
  item_kept k a (Err e) result told is = absurd (false≢true is)
  item_kept k a (Ok x) (Ok y) told is = more_memory k a told
  item_kept k a (Ok x) (Err e) told is = memory_after k a (visited_then (under k a) (may_allocate none) told refl (refused_memory e))

  -- an item was not read to its end
  pub item_refused : {A B : Type 0} (k : Part) (a : Visits) (first : Result A E) (result : Result B E) {before after : Trace} {old new : List Entry} → Visited (under k a) text before after old new (forget first) → IsErr first → IsErr result → Visited (under k (may_allocate a)) text before after old new (forget result)
  item_refused k a (Ok x) result told was is = absurd (false≢true was)
  item_refused k a (Err e) (Ok y) told was is = absurd (false≢true is)
  item_refused k a (Err e) (Err f) told was is = more_memory k a (record { ok = tt; err = told.err; why = told.why })

  -- what is left begins with this entry
  pub entry_then : {K A : Type 0} (part : K → Part) (each : A → Visits) (e : K × A) (es : List (K × A)) {before mid after : Trace} {old between new : List Entry} {first result : Result Unit E} → Visited (under (part e.0) (each e.1)) text before mid old between first → IsOk first → Visited (entries part each es) text mid after between new result → Visited (entries part each (e ∷ es)) text before after old new result
  unfolding entries under ◌and◌
  entry_then part each e es one is rest = visited_as (λ t v. v) (Any-cons (λ d. (each d.1).allocates) e es) (visited_then (under (part e.0) (each e.1)) (entries part each es) one is rest)

  pub entry_stop : {K A : Type 0} (part : K → Part) (each : A → Visits) (e : K × A) (es : List (K × A)) {before after : Trace} {old new : List Entry} {first result : Result Unit E} → Visited (under (part e.0) (each e.1)) text before after old new first → IsErr first → IsErr result → Visited (entries part each (e ∷ es)) text before after old new result
  unfolding entries under ◌and◌
  entry_stop part each e es one was is = visited_as (λ t v. v) (Any-cons (λ d. (each d.1).allocates) e es) (visited_stop (under (part e.0) (each e.1)) (entries part each es) one was is)

  pub entry_none : {K A : Type 0} (part : K → Part) (each : A → Visits) {walk : Trace} {old : List Entry} → Visited {E = E} (entries part each []) text walk walk old old (Ok tt)
  unfolding entries none only
  entry_none part each = visited_as (λ t v. v) (λ h. absurd h) visited_none

  -- the next item was read, under its index
  pub item_then : {A : Type 0} (each : Json → Visits) (index : ℕ) {next : ℕ} (left : List Json) (j : Json) (js : List Json) (p : Part) (first : Result A E) {before mid after : Trace} {old between new : List Entry} {result : Result Unit E} → left ≡ j ∷ js → p ≡ index_part index → next ≡ index + 1 → Visited (under p (may_allocate (each j))) text before mid old between (forget first) → IsOk first → Visited (items_left each next js) text mid after between new result → Visited (items_left each index left) text before after old new result
  item_then each index left j js p (Err e) step is following one was rest = absurd (false≢true was)
  item_then each index {next} left j js p (Ok x) {before} {mid} {after} {old} {between} {new} {result} step is following one was rest =
      let told = subst (λ k. Visited {E = E} (under k (may_allocate (each j))) text before mid old between (Ok tt)) is one in
      let others = subst (λ n. Visited (items_left each n js) text mid after between new result) following rest in
      subst (λ l. Visited (items_left each index l) text before after old new result) (sym step)
      (entry_then index_part (λ y. may_allocate (each y)) (index, j) (enumerate_from (index + 1) js) {first = Ok tt} told refl others)

  -- the next item was not read to its end
  pub item_stop : {A B : Type 0} (each : Json → Visits) (index : ℕ) (left : List Json) (j : Json) (js : List Json) (p : Part) (first : Result A E) (result : Result B E) {before after : Trace} {old new : List Entry} → left ≡ j ∷ js → p ≡ index_part index → Visited (under p (may_allocate (each j))) text before after old new (forget first) → IsErr first → IsErr result → Visited (items_left each index left) text before after old new (forget result)
  item_stop each index left j js p (Ok x) result step is one was so = absurd (false≢true was)
  item_stop each index left j js p (Err e) (Ok y) step is one was so = absurd (false≢true so)
  item_stop each index left j js p (Err e) (Err f) {before} {after} {old} {new} step is one was so =
      let told = subst (λ k. Visited {E = E} (under k (may_allocate (each j))) text before after old new (Err e)) is one in
      subst (λ l. Visited (items_left each index l) text before after old new (Err f)) (sym step)
      (entry_stop index_part (λ y. may_allocate (each y)) (index, j) (enumerate_from (index + 1) js) {first = Err e} told refl refl)

  -- no item is left
  pub item_end : (each : Json → Visits) (index : ℕ) (left : List Json) {walk : Trace} {old : List Entry} → left ≡ [] → Visited {E = E} (items_left each index left) text walk walk old old (Ok tt)
  item_end each index left {walk} {old} end =
      subst (λ l. Visited {E = E} (items_left each index l) text walk walk old old (Ok tt)) (sym end)
      (entry_none index_part (λ y. may_allocate (each y)))

  -- before the first item all are left
  pub items_first : (each : Json → Visits) (js : List Json) {before after : Trace} {old new : List Entry} {result : Result Unit E} → Visited (items_left each 0 js) text before after old new result → Visited (each_item each js) text before after old new result
  items_first each js told = visited_numbered (λ j. may_allocate (each j)) js told

  -- the rules of a list were asked of this count
  pub counted_then : (asks : ℕ → Visits) (b : Visits) {count n : ℕ} {before mid after : Trace} {old between new : List Entry} {first result : Result Unit E} → count ≡ n → Visited (asks count) text before mid old between first → IsOk first → Visited b text mid after between new result → Visited (asks n and b) text before after old new result
  counted_then asks b {before = before} {mid} {old = old} {between} {first = first} is one was rest = visited_then (asks _) b (subst (λ m. Visited (asks m) text before mid old between first) is one) was rest

  pub counted_stop : {B : Type 0} (asks : ℕ → Visits) (b : Visits) {count n : ℕ} {first : Result Unit E} (result : Result B E) {before after : Trace} {old new : List Entry} → count ≡ n → Visited (asks count) text before after old new first → IsErr first → IsErr result → Visited (asks n and b) text before after old new (forget result)
  counted_stop asks b (Ok y) is one was so = absurd (false≢true so)
  counted_stop asks b {first = first} (Err f) {before} {after} {old} {new} is one was so = visited_stop (asks _) b (subst (λ m. Visited (asks m) text before after old new first) is one) was refl
