-- The lines of a table that is read from a file: what is told of them, and what is known.
use Rattle.std.proofs.Common.{◌≡◌, ◌∙◌, ◌+◌, ◌<◌, ◌≤◌, ◌∷◌, ℕ, List, [], Bool, true, false, Option, Some, None, Result, Ok, Err, IsOk, IsErr, inl, length, drop, map, ◌++◌, get_or, refl, sym, ap, subst, append-nil, arith}
use Rattle.std.specs.Prelude.{IfOk, IsOkAnd, OnOk, option_map}
use Rattle.std.proofs.lemmas.Bool.{false≢true}
use Rattle.std.proofs.lemmas.List.{at_drop_more, drop_all}
use Rattle.std.proofs.lemmas.List.Elements.{All-cons, All-nil}
use Rattle.std.proofs.lemmas.Option.{none-some}
use Rattle.json.specs.Json.{Json}
use Rattle.json.specs.Find.{as_str}
use Rattle.garde_i18n.specs.Datum.{Datum}
use Rattle.garde_report.specs.Part.{Part, key_part}
use Rattle.garde_report.specs.Report.{Entry}
use Rattle.garde_report.specs.Trace.{Trace}
use Rattle.garde.specs.Tree.{Tree, nothing, fault, under as node, ◌then◌}
use Rattle.garde_report.specs.Fault.{IfFault}
use Rattle.garde_report.specs.declared.error.rule_error.RuleError.{RuleError}
use Rattle.garde_report.specs.declared.error.rule_error.RuleError.TheVariants as errors
use Rattle.garde_rules.specs.{Applies, Fault, rule}
use Rattle.garde.specs.Visits.{Visits, Visited, Known, none, only, found, under, may_allocate, ◌and◌}
use Rattle.garde.proofs.Author.{visited_as, visited_none, visited_then, visited_stop}
use Rattle.garde_tape.specs.Look.{find_answer}
use Rattle.garde_tape.specs.declared.found.Found.{Found}
use Rattle.garde_tape.specs.declared.found.Found.TheVariants.{Missing, Once, Repeated}
use Rattle.garde_schema.specs.Forms.{FormTexts, Sound, forget, formed, refused}
use Rattle.garde_schema.specs.Members.{member_visits, optional_visits}
use Rattle.garde_catalog.specs.Lines.{AreGoodLines, AreOwn, Line, asked, found_text, in_turn, joined, line_visits, read, text_found, text_of, text_visits}
use Rattle.garde_catalog.specs.Messages.{LIBRARY, Message, Stated, message_of}
use Rattle.garde_catalog.specs.Template.{fault_datum, template_fault}
use Rattle.garde_catalog.specs.declared.template.TemplateFault.{TemplateFault}
use Rattle.garde_catalog.proofs.GoodLines.{AllFit, Fits, good_lines, has_lines}
use Rattle.garde_catalog.proofs.Judged.{good}

-- ---- what is told

then_nothing : (t : Tree) → (t then nothing) ≡ t
then_nothing nothing = refl
then_nothing (fault f t) = ap (λ s. fault f s) (then_nothing t)
then_nothing (node k s t) = ap (λ u. node k s u) (then_nothing t)

module _ {text : Datum → List ℕ} {E : Type 0} where
  module _ (each : Message → Visits) (messages : List Stated) (i : ℕ) where
    -- no message is left
    pub turn_end : length messages ≤ i → {walk : Trace} {old : List Entry} → Visited {E = E} (in_turn each (map message_of (drop i messages))) text walk walk old old (Ok tt)
    unfolding in_turn
    turn_end past {walk} {old} = subst (λ z. Visited {E = E} (in_turn each (map message_of z)) text walk walk old old (Ok tt)) (sym (drop_all i messages past)) visited_none

    -- this one is the next
    pub turn_then : (d : Stated) → i < length messages → {before mid after : Trace} {old between new : List Entry} {first result : Result Unit E} → Visited (each (message_of (get_or messages i d))) text before mid old between first → IsOk first → Visited (in_turn each (map message_of (drop (i + 1) messages))) text mid after between new result → Visited (in_turn each (map message_of (drop i messages))) text before after old new result
    unfolding in_turn
    turn_then d within {before} {after = after} {old} {new = new} {result = result} told done rest = subst (λ z. Visited (in_turn each (map message_of z)) text before after old new result) (sym (at_drop_more (λ l. l) messages i d within)) (visited_then _ _ told done rest)

    pub turn_stop : (d : Stated) → i < length messages → {before after : Trace} {old new : List Entry} {first result : Result Unit E} → Visited (each (message_of (get_or messages i d))) text before after old new first → IsErr first → IsErr result → Visited (in_turn each (map message_of (drop i messages))) text before after old new result
    unfolding in_turn
    turn_stop d within {before} {after} {old} {new} {result = result} told was stops = subst (λ z. Visited (in_turn each (map message_of z)) text before after old new result) (sym (at_drop_more (λ l. l) messages i d within)) (visited_stop _ _ told was stops)

  -- memory ran out, and nothing was told
  silent : {walk : Trace} {old : List Entry} (e : E) → Visited {E = E} (may_allocate none) text walk walk old old (Err e)
  unfolding may_allocate none only
  silent {old = old} e = record {
    ok = tt;
    err = record {
      tree = nothing;
      visited = refl;
      said = [];
      unsaid = [];
      cut = refl;
      report = sym (append-nil old);
      fits = omega arith;
      components = refl;
      limit = refl;
      front = omega arith;
      nodes = omega arith;
      most = omega arith;
    };
    why = inl tt;
  }

  memory_after : (a : Visits) {before after : Trace} {old new : List Entry} {result : Result Unit E} → Visited (a and may_allocate none) text before after old new result → Visited (may_allocate a) text before after old new result
  unfolding may_allocate none only ◌and◌
  memory_after a told = visited_as (λ t (x, y, vx, vy, is). subst (λ s. a.trees s) (sym (is ∙ ap (λ z. x then z) vy ∙ then_nothing x)) vx) (λ h. tt) told

  more : (a : Visits) {before after : Trace} {old new : List Entry} {result : Result Unit E} → Visited a text before after old new result → Visited (may_allocate a) text before after old new result
  unfolding may_allocate
  more a told = visited_as {a = a} (λ t v. v) (λ h. tt) told

  -- the faults were told, and the value is there, or memory runs out
  pub then_made : {A : Type 0} (a : Visits) (first : Result Unit E) (result : Result A E) {before after : Trace} {old new : List Entry} → Visited a text before after old new first → IsOk first → Visited (may_allocate a) text before after old new (forget result)
  then_made a (Err e) result told is = absurd (false≢true is)
  then_made a (Ok done) (Ok x) told is = more a told
  then_made a (Ok done) (Err e) told is = memory_after a (visited_then a (may_allocate none) told refl (silent e))

  -- the faults were not told to their end
  pub not_made : {A : Type 0} (a : Visits) (first : Result Unit E) (result : Result A E) {before after : Trace} {old new : List Entry} → Visited a text before after old new first → IsErr first → IsErr result → Visited (may_allocate a) text before after old new (forget result)
  not_made a (Ok done) result told was is = absurd (false≢true was)
  not_made a (Err e) (Ok x) told was is = absurd (false≢true is)
  not_made a (Err e) (Err f) told was is = more a (record { ok = tt; err = told.err; why = told.why })

  -- what is asked of messages is asked of the same messages
  pub of_these : (may_lack : Bool) (texts : FormTexts) (j : Json) {listed all : List Message} {first : Result Unit E} {before after : Trace} {old new : List Entry} → listed ≡ all → Visited (asked may_lack texts j listed) text before after old new first → Visited (asked may_lack texts j all) text before after old new first
  of_these may_lack texts j {first = first} {before} {after} {old} {new} same told = subst (λ messages. Visited (asked may_lack texts j messages) text before after old new first) same told

  -- the first faults were not told to their end, and no others
  pub not_begun : {A : Type 0} (a b : Visits) (first : Result Unit E) (result : Result A E) {before after : Trace} {old new : List Entry} → Visited a text before after old new first → IsErr first → IsErr result → Visited (may_allocate (a and b)) text before after old new (forget result)
  not_begun a b first (Ok x) told was is = absurd (false≢true is)
  not_begun a b first (Err f) told was is = more (a and b) (visited_stop a b told was refl)

-- ---- what a rule finds

-- what is wrong with the text of a message
pub its_fault : (message : Message) (text : List ℕ) {body : List ℕ} {o : Option TemplateFault} → body ≡ text → o ≡ template_fault message.1 message.2 body → text_found message text ≡ option_map (λ found. rule (fault_datum found)) o
its_fault message text b is =
    ap (option_map (λ found. rule (fault_datum found))) (ap (λ x. template_fault message.1 message.2 x) (sym b) ∙ sym is)

-- the answer of a rule that asks a handler for the text of what it found
datum_applies : {C E : Type 0} (bytes : C → List ℕ) (datum : Datum) (text : Datum → List ℕ) (r : Result C E) (e : RuleError) → IfFault e (λ m. IsOkAnd r (λ t. m ≡ bytes t)) → IfOk r (λ s. bytes s ≡ text datum) → Applies (Some (rule datum)) text (Err e)
datum_applies bytes datum text (Ok t) (errors.Fault m) says is = says ∙ is
datum_applies bytes datum text (Err x) (errors.Fault m) says is = absurd says
datum_applies bytes datum text r errors.Memory says is = refl

pub fault_applies : {found : Option Fault} {C E : Type 0} (bytes : C → List ℕ) (datum asked : Datum) (text : Datum → List ℕ) (r : Result C E) (e : RuleError) → found ≡ Some (rule datum) → asked ≡ datum → IfFault e (λ m. IsOkAnd r (λ t. m ≡ bytes t)) → IfOk r (λ s. bytes s ≡ text asked) → Applies found text (Err e)
fault_applies bytes datum asked text r e which same says is =
    subst (λ x. Applies x text (Err e)) (ap (λ d. Some (rule d)) same ∙ sym which) (datum_applies bytes asked text r e says is)

-- ---- what is known

refused_is_fault : (message : List ℕ) → Known (refused message) → ⊥
unfolding Known found
refused_is_fault message is = cc

no_fault : (o : Option TemplateFault) {A : Type 0} (f : TemplateFault → A) → option_map f o ≡ None → o ≡ None
no_fault None f e = refl
no_fault (Some x) f e = absurd (none-some (f x) (sym e))

-- a text of which nothing is wrong is a template
text_fits : (may_lack : Bool) (m : Message) (message : List ℕ) (o : Option (List ℕ)) → Known (formed message (λ text. found (text_found m text)) o) → Fits may_lack m (option_map (λ text. Some text) o)
unfolding Known found
text_fits may_lack m message (Some text) known = good text m.1 m.2 (no_fault (template_fault m.1 m.2 text) _ known)
text_fits may_lack m message None known = refused_is_fault message known

found_fits : (texts : FormTexts) (m : Message) (f : Found) → Known (member_visits texts (λ v. text_visits texts m v) f) → Fits false m (found_text false f)
found_fits texts m Missing known = refused_is_fault _ known
found_fits texts m (Once v) known = text_fits false m _ (as_str v) known
found_fits texts m Repeated known = refused_is_fault _ known

some_found_fits : (name : Part) (texts : FormTexts) (m : Message) (f : Found) → Known (optional_visits name texts (λ v. text_visits texts m v) f) → Fits true m (found_text true f)
unfolding Known under
some_found_fits name texts m Missing known = refl
some_found_fits name texts m (Once v) known = text_fits true m _ (as_str v) known
some_found_fits name texts m Repeated known = refused_is_fault _ known

line_fits : (may_lack : Bool) (texts : FormTexts) (j : Json) (m : Message) → Known (line_visits may_lack texts j m) → Fits may_lack m (text_of may_lack j m.0)
unfolding Known under
line_fits true texts j m known = some_found_fits (key_part m.0) texts m (find_answer m.0 j) known
line_fits false texts j m known = found_fits texts m (find_answer m.0 j) known

all_fit : (may_lack : Bool) (texts : FormTexts) (j : Json) (messages : List Message) → Known (asked may_lack texts j messages) → AllFit may_lack (λ code. text_of may_lack j code) messages
unfolding Known ◌and◌ in_turn
all_fit may_lack texts j [] known = All-nil (λ m. Fits may_lack m (text_of may_lack j m.0))
all_fit may_lack texts j (m ∷ messages) known =
    All-cons (λ k. Fits may_lack k (text_of may_lack j k.0)) m messages (line_fits may_lack texts j m known.0) (all_fit may_lack texts j messages known.1)

known_both : (a b : Visits) → Known (may_allocate (a and b)) → Known a × Known b
unfolding Known may_allocate ◌and◌
known_both a b known = known

pub on_ok : {A E : Type 0} (r : Result A E) {P : Type 0} → P → OnOk r P
on_ok (Ok x) p = p
on_ok (Err e) p = tt

has_both : (xs ys : Option (List Line)) (a b : List Line) → xs ≡ Some a → ys ≡ Some b → joined xs ys ≡ Some (a ++ b)
has_both xs ys a b x y = ap (λ o. joined o ys) x ∙ ap (joined (Some a)) y

module _ (may_lack : Bool) (texts : FormTexts) (j : Json) (own : List Message) where
  abbrev visits : Visits
  visits = may_allocate (asked may_lack texts j LIBRARY and asked may_lack texts j own)

  abbrev value : Option (List Line)
  value = joined (read may_lack j LIBRARY) (read may_lack j own)

  sound_of : (o : Option (List Line)) → value ≡ o → Sound visits (λ lines. AreOwn own → AreGoodLines may_lack lines) o
  sound_of (Some lines) is = λ known are_own.
      let each = known_both (asked may_lack texts j LIBRARY) (asked may_lack texts j own) known in
      good_lines may_lack (λ code. text_of may_lack j code) own lines are_own (all_fit may_lack texts j LIBRARY each.0) is
  sound_of None is = λ known.
      let each = known_both (asked may_lack texts j LIBRARY) (asked may_lack texts j own) known in
      let xs = has_lines may_lack (λ code. text_of may_lack j code) LIBRARY (all_fit may_lack texts j LIBRARY each.0) in
      let ys = has_lines may_lack (λ code. text_of may_lack j code) own (all_fit may_lack texts j own each.1) in
      none-some (xs.0 ++ ys.0) (sym is ∙ has_both (read may_lack j LIBRARY) (read may_lack j own) xs.0 ys.0 xs.1 ys.1)

  -- lines of which nothing is wrong make a good table
  pub sound_lines : Sound visits (λ lines. AreOwn own → AreGoodLines may_lack lines) value
  sound_lines = sound_of _ refl
