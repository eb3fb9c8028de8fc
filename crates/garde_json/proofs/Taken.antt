-- Tokens that are taken one after another, and lists of written forms among them.
use Rattle.std.proofs.Common.{◌≡◌, ◌≢◌, ℕ, ◌+◌, List, [], ◌∷◌, ◌++◌, Option, Some, None, Result, sym, ap, subst, ◌∙◌, arith, append_assoc, append-nil}
use Rattle.json.specs.Token.{Token}
use Rattle.json.specs.Json as json
use Rattle.json.specs.Json.{Json, value}
use Rattle.json.specs.Tree.{json_tokens, depth}
use Rattle.json.proofs.Printed.Trees.{value-json_tokens}
use Rattle.serde_json.specs.Data.{Data}
use Rattle.serde_json.specs.Written.{outline}
use Rattle.std.specs.Prelude.{codes}
use Rattle.garde_report.specs.Part.{Part}
use Rattle.garde_report.specs.Report.{Entry}
use Rattle.garde_json.specs.First.{entries_json}
use Rattle.garde_json.specs.Json.{path_json, error_json, entry_json, report_json}
use Rattle.std.specs.declared.alloc.AllocError.{AllocError}
use Rattle.garde_json.specs.Next.{ReadsNext}
use Rattle.garde_json.specs.Tokens.{tree_tokens, rest_tokens}

-- what stands behind what was read
abbrev behind_it : Option (Json × List Token) → List Token
behind_it None = []
behind_it (Some p) = p.1

-- the tokens behind two values are the same where all are
pub same_rest : (j k : Json) (r s : List Token) → json_tokens j ++ r ≡ json_tokens k ++ s → r ≡ s
same_rest j k r s e =
    let d = depth j + depth k in
    ap behind_it (sym (value-json_tokens j d r (omega arith)) ∙ ap (value d) e ∙ value-json_tokens k d s (omega arith))

-- no value begins with the bracket that closes a list
pub no_end : (j : Json) (r s : List Token) → json_tokens j ++ r ≢ Token.end_array ∷ s
no_end json.null r s e = cc
no_end (json.boolean b) r s e = cc
no_end (json.number n) r s e = cc
no_end (json.string t) r s e = cc
no_end (json.array js) r s e = cc
no_end (json.object ms) r s e = cc

-- What was read of a list, of which these values are done: what is still to come ends the list where it ends, and it is a list only
-- where that is the end of one.
pub record Goes {X : Type 0} (tree : X → Data) (done : List X) (start now : List Token) : Type 0 where
  pub made : (ys : List X) (rest : List Token) → now ≡ rest_tokens tree ys ++ rest → start ≡ rest_tokens tree (done ++ ys) ++ rest
  pub left : (xs : List X) (rest : List Token) → start ≡ rest_tokens tree xs ++ rest → (ys : List X) × (now ≡ rest_tokens tree ys ++ rest)

behind : {X : Type 0} (tree : X → Data) (x : X) (ys : List X) (next now rest : List Token) → now ≡ tree_tokens (tree x) ++ next → now ≡ rest_tokens tree ys ++ rest → (zs : List X) × (next ≡ rest_tokens tree zs ++ rest)
behind tree x [] next now rest is e = absurd (no_end (outline (tree x)) next rest (sym is ∙ e))
behind tree x (y ∷ ys) next now rest is e =
    (ys, same_rest (outline (tree x)) (outline (tree y)) next (rest_tokens tree ys ++ rest) (sym is ∙ e ∙ append_assoc (tree_tokens (tree y)) (rest_tokens tree ys) rest))

-- one value more is done
pub goes_on : {X : Type 0} (tree : X → Data) (done : List X) (x : X) (start now next : List Token) → Goes tree done start now → now ≡ tree_tokens (tree x) ++ next → Goes tree (done ++ x ∷ []) start next
goes_on tree done x start now next so_far is = record {
  made = λ ys rest e.
      so_far.made (x ∷ ys) rest (is ∙ ap (λ l. tree_tokens (tree x) ++ l) e ∙ sym (append_assoc (tree_tokens (tree x)) (rest_tokens tree ys) rest))
      ∙ ap (λ l. rest_tokens tree l ++ rest) (sym (append_assoc done (x ∷ []) ys));
  left = λ xs rest e.
      let there = so_far.left xs rest e in
      behind tree x there.0 next now rest is there.1;
}

-- the list is at its end
pub goes_end : {X : Type 0} (tree : X → Data) (done : List X) (start now next : List Token) → Goes tree done start now → now ≡ Token.end_array ∷ next → start ≡ rest_tokens tree done ++ next
goes_end tree done start now next so_far is = so_far.made [] next is ∙ ap (λ l. rest_tokens tree l ++ next) (append-nil done)

-- neither a value nor the end is next
neither : {X : Type 0} (tree : X → Data) (now : List Token) → ((rest : List Token) → now ≢ Token.end_array ∷ rest) → ((x : X) (rest : List Token) → now ≢ tree_tokens (tree x) ++ rest) → (ys : List X) (rest : List Token) → now ≢ rest_tokens tree ys ++ rest
neither tree now no_end no_value [] rest e = no_end rest e
neither tree now no_end no_value (y ∷ ys) rest e = no_value y (rest_tokens tree ys ++ rest) (e ∙ append_assoc (tree_tokens (tree y)) (rest_tokens tree ys) rest)

pub goes_astray : {X : Type 0} (tree : X → Data) (done : List X) (start now : List Token) → Goes tree done start now
    → ((rest : List Token) → now ≢ Token.end_array ∷ rest) → ((x : X) (rest : List Token) → now ≢ tree_tokens (tree x) ++ rest) → (xs : List X) (rest : List Token) → start ≢ rest_tokens tree xs ++ rest
goes_astray tree done start now so_far no_end no_value xs rest e =
    let there = so_far.left xs rest e in
    neither tree now no_end no_value there.0 rest there.1

-- what is read where no written form is next
pub none_next : {X : Type 0} (tree : X → Data) (old new : List Token) (r : Option (Result X AllocError)) → r ≡ None → ((x : X) (rest : List Token) → old ≢ tree_tokens (tree x) ++ rest) → ReadsNext tree old new r
none_next tree old new r none other = subst (ReadsNext tree old new) (sym none) other

pub tail_is : (t : Token) (old xs ys : List Token) → old ≡ t ∷ xs → old ≡ t ∷ ys → xs ≡ ys
tail_is t old xs ys is same =
    let all : t ∷ xs ≡ t ∷ ys = sym is ∙ same in
    cc

-- behind the bracket that opens it, no list is next
pub list_astray : {X : Type 0} (tree : X → Data) (old start : List Token) → old ≡ Token.begin_array ∷ start → ((xs : List X) (rest : List Token) → start ≢ rest_tokens tree xs ++ rest)
    → (xs : List X) (rest : List Token) → old ≢ Token.begin_array ∷ (rest_tokens tree xs ++ rest)
list_astray tree old start is other xs rest same = other xs rest (tail_is Token.begin_array old start _ is same)

-- ---- a fault: its path, its error, and the bracket that closes it

entry_parts : (old first : List Token) (e : Entry) (rest : List Token) → old ≡ Token.begin_array ∷ first → old ≡ tree_tokens (entry_json e) ++ rest
    → first ≡ tree_tokens (path_json e.0) ++ (tree_tokens (error_json e.1) ++ (Token.end_array ∷ rest))
entry_parts old first e rest is same =
    tail_is Token.begin_array old first _ is same
    ∙ append_assoc (tree_tokens (path_json e.0)) (tree_tokens (error_json e.1) ++ (Token.end_array ∷ [])) rest
    ∙ ap (λ l. tree_tokens (path_json e.0) ++ l) (append_assoc (tree_tokens (error_json e.1)) (Token.end_array ∷ []) rest)

pub entry_without_path : (old first : List Token) → old ≡ Token.begin_array ∷ first → ((p : List Part) (rest : List Token) → first ≢ tree_tokens (path_json p) ++ rest)
    → (e : Entry) (rest : List Token) → old ≢ tree_tokens (entry_json e) ++ rest
entry_without_path old first is other e rest same = other e.0 _ (entry_parts old first e rest is same)

behind_path : (old first second : List Token) (p : List Part) (e : Entry) (rest : List Token) → old ≡ Token.begin_array ∷ first → first ≡ tree_tokens (path_json p) ++ second → old ≡ tree_tokens (entry_json e) ++ rest
    → second ≡ tree_tokens (error_json e.1) ++ (Token.end_array ∷ rest)
behind_path old first second p e rest is path same =
    same_rest (outline (path_json p)) (outline (path_json e.0)) second (tree_tokens (error_json e.1) ++ (Token.end_array ∷ rest)) (sym path ∙ entry_parts old first e rest is same)

pub entry_without_error : (old first second : List Token) (p : List Part) → old ≡ Token.begin_array ∷ first → first ≡ tree_tokens (path_json p) ++ second
    → ((m : List ℕ) (rest : List Token) → second ≢ tree_tokens (error_json m) ++ rest) → (e : Entry) (rest : List Token) → old ≢ tree_tokens (entry_json e) ++ rest
entry_without_error old first second p is path other e rest same = other e.1 _ (behind_path old first second p e rest is path same)

pub entry_without_end : (old first second third : List Token) (p : List Part) (m : List ℕ) → old ≡ Token.begin_array ∷ first → first ≡ tree_tokens (path_json p) ++ second → second ≡ tree_tokens (error_json m) ++ third
    → ((rest : List Token) → third ≢ Token.end_array ∷ rest) → (e : Entry) (rest : List Token) → old ≢ tree_tokens (entry_json e) ++ rest
entry_without_end old first second third p m is path error other e rest same =
    other rest (same_rest (outline (error_json m)) (outline (error_json e.1)) third (Token.end_array ∷ rest) (sym error ∙ behind_path old first second p e rest is path same))

pub entry_whole : (old first second third new : List Token) (p : List Part) (m : List ℕ) → old ≡ Token.begin_array ∷ first → first ≡ tree_tokens (path_json p) ++ second → second ≡ tree_tokens (error_json m) ++ third
    → third ≡ Token.end_array ∷ new → old ≡ tree_tokens (entry_json (p, m)) ++ new
entry_whole old first second third new p m is path error end =
    is ∙ ap (λ l. Token.begin_array ∷ l) (path ∙ ap (λ l. tree_tokens (path_json p) ++ l) (error ∙ ap (λ l. tree_tokens (error_json m) ++ l) end
    ∙ sym (append_assoc (tree_tokens (error_json m)) (Token.end_array ∷ []) new))
    ∙ sym (append_assoc (tree_tokens (path_json p)) (tree_tokens (error_json m) ++ (Token.end_array ∷ [])) new))

-- ---- a report: an object of one member, its faults

report_parts : (old first second : List Token) (es : List Entry) → old ≡ Token.begin_object ∷ first → first ≡ Token.key (codes "errors") ∷ second → old ≡ tree_tokens (report_json es)
    → second ≡ tree_tokens (entries_json es) ++ (Token.end_object ∷ [])
report_parts old first second es is key same =
    tail_is (Token.key (codes "errors")) first second _ key (tail_is Token.begin_object old first _ is same)

pub report_without_faults : (old first second : List Token) → old ≡ Token.begin_object ∷ first → first ≡ Token.key (codes "errors") ∷ second
    → ((es : List Entry) (rest : List Token) → second ≢ tree_tokens (entries_json es) ++ rest) → (es : List Entry) → old ≢ tree_tokens (report_json es)
report_without_faults old first second is key other es same = other es _ (report_parts old first second es is key same)

-- behind the faults stands the end of the object alone
pub report_ends : (old first second third : List Token) (es fs : List Entry) → old ≡ Token.begin_object ∷ first → first ≡ Token.key (codes "errors") ∷ second → second ≡ tree_tokens (entries_json es) ++ third
    → old ≡ tree_tokens (report_json fs) → third ≡ Token.end_object ∷ []
report_ends old first second third es fs is key faults same =
    same_rest (outline (entries_json es)) (outline (entries_json fs)) third (Token.end_object ∷ []) (sym faults ∙ report_parts old first second fs is key same)

pub report_whole : (old first second third : List Token) (es : List Entry) → old ≡ Token.begin_object ∷ first → first ≡ Token.key (codes "errors") ∷ second → second ≡ tree_tokens (entries_json es) ++ third
    → third ≡ Token.end_object ∷ [] → old ≡ tree_tokens (report_json es)
report_whole old first second third es is key faults end =
    is ∙ ap (λ l. Token.begin_object ∷ l) (key ∙ ap (λ l. Token.key (codes "errors") ∷ l) (faults ∙ ap (λ l. tree_tokens (entries_json es) ++ l) end))
