-- What a walk adds to its nodes, in turn, and the nodes of problem details.
use Rattle.std.proofs.Common.{◌≡◌, ℕ, List, [], ◌∷◌, ◌++◌, length, Option, Some, None, codes, decimal, refl, sym, ap, ◌∙◌, subst, append_assoc, append-nil, suc, pos}
use Rattle.std.specs.Borrow.{Bor}
use Rattle.std.specs.Float.Numeral.{scan_numeral}
use Rattle.std.specs.Fmt.{digits}
use Rattle.json.specs.Json.{array, object, string, member}
use Rattle.garde_report.specs.Report.{Entry}
use Rattle.garde_tape.specs.Number.{signed_of}
use Rattle.garde_tape.specs.Reading.{item_list, member_list}
use Rattle.garde_problem.specs.Coded.{Param, Parts}
use Rattle.garde_problem.specs.Problem.{faults_json, params_members, parts_members}
use Rattle.garde_library.specs.Checked.{details}
use Rattle.garde_library.specs.Nodes.{Mark, an_object, a_text, a_number, marks, IsNode, Adds, AreAdded, AreNodes, members_with, sentence_marks}
use Rattle.garde_library.specs.declared.node.Node.{Node}
use Rattle.garde_library.specs.declared.walk.Walk.{Walk}
use Rattle.garde_library.proofs.Growing.{plain_added, none_added, then_added}

-- nothing is added
pub nothing_is_added : (w : Walk) → AreAdded [] w w
nothing_is_added w = record { body = refl; nodes = none_added w.body.now w.nodes.items w.room.items }

-- what is added in turn
pub then_are_added : (ms ms' : List Mark) (a b c : Walk) → AreAdded ms a b → AreAdded ms' b c → AreAdded (ms ++ ms') a c
then_are_added ms ms' a b c first second = record {
  body = second.body ∙ first.body;
  nodes = then_added ms ms' a.body.now a.nodes.items b.nodes.items c.nodes.items a.room.items b.room.items c.room.items first.nodes
      (subst (λ (at : Bor (List ℕ)). Adds ms' at.now b.nodes.items b.room.items c.nodes.items c.room.items) first.body second.nodes);
}

-- the same by another name
pub as_added : (ms ms' : List Mark) (a b : Walk) → ms ≡ ms' → AreAdded ms a b → AreAdded ms' a b
as_added ms ms' a b same added = subst (λ xs. AreAdded xs a b) same added

-- a node without a text
pub plain_is_added : (m : Mark) (a b : Walk) (n : Node) → b.nodes.items ≡ a.nodes.items ++ n ∷ [] → b.body ≡ a.body → b.room.items ≡ a.room.items → IsNode a.body.now b.room.items m n → AreAdded (m ∷ []) a b
plain_is_added m a b n nodes body room is = record { body = body; nodes = plain_added a.body.now a.room.items b.room.items a.nodes.items b.nodes.items m n nodes room is }

-- What is added so far and what is left are all; and what is added next.
abbrev pub AddedUpTo : List Mark → List Mark → Walk → Walk → Type 0
AddedUpTo left all a b = (done : List Mark) × (done ++ left ≡ all) × AreAdded done a b

pub added_more : (ms left left' all : List Mark) (a b c : Walk) → left ≡ ms ++ left' → AddedUpTo left all a b → AreAdded ms b c → AddedUpTo left' all a c
added_more ms left left' all a b c e so next = (so.0 ++ ms, append_assoc so.0 ms left' ∙ ap (λ xs. so.0 ++ xs) (sym e) ∙ so.1, then_are_added so.0 ms a b c so.2 next)

-- a message has so many parameters, and a report so many faults
pub params_count : (ps : List Param) → length (member_list (params_members ps)) ≡ length ps
params_count [] = refl
params_count (p ∷ ps) = ap suc (params_count ps)

pub faults_count : (es : List Entry) → length (item_list (faults_json es)) ≡ length es
faults_count [] = refl
faults_count (e ∷ es) = ap suc (faults_count es)

-- the nodes of a fault, one member after another
pub fault_marks : (pointer : List ℕ) (m : Parts) →
    an_object 4 ∷ (a_text (codes "pointer") ∷ a_text pointer ∷ (a_text (codes "detail") ∷ a_text m.detail ∷ (a_text (codes "code") ∷ a_text m.code ∷ (a_text (codes "params") ∷ marks (object (params_members m.params))))))
    ≡ marks (object (member (codes "pointer") (string pointer) (parts_members m)))
fault_marks pointer m = ap (λ ms. an_object 4 ∷ a_text (codes "pointer") ∷ a_text pointer ∷ a_text (codes "detail") ∷ a_text m.detail ∷ a_text (codes "code") ∷ a_text m.code ∷ a_text (codes "params") ∷ ms) (sym (append-nil (marks (object (params_members m.params)))))

-- the nodes of details, one member after another
pub details_marks : (title : List ℕ) (status : ℕ) (detail : Option (List ℕ)) (es : List Entry) →
    an_object (members_with detail) ∷ (a_text (codes "title") ∷ a_text title ∷ (a_text (codes "status") ∷ (a_number (decimal status) ∷ (sentence_marks detail ++ (a_text (codes "errors") ∷ marks (array (faults_json es)))))))
    ≡ marks (details title status detail es)
details_marks title status None es = ap (λ ms. an_object 3 ∷ a_text (codes "title") ∷ a_text title ∷ a_text (codes "status") ∷ a_number (decimal status) ∷ a_text (codes "errors") ∷ ms) (sym (append-nil (marks (array (faults_json es)))))
details_marks title status (Some s) es = ap (λ ms. an_object 4 ∷ a_text (codes "title") ∷ a_text title ∷ a_text (codes "status") ∷ a_number (decimal status) ∷ a_text (codes "detail") ∷ a_text s ∷ a_text (codes "errors") ∷ ms) (sym (append-nil (marks (array (faults_json es)))))

-- a walk that begins with no node has the nodes that were added
pub all_added : (ms : List Mark) (a b : Walk) → AreAdded ms a b → a.nodes.items ≡ [] → AreNodes a.body.now b.room.items ms b.nodes.items
all_added ms a b added none = added.nodes [] (subst (λ ns. AreNodes a.body.now a.room.items [] ns) (sym none) tt)

-- the statuses are whole numbers
pub status_400 : signed_of 64 (decimal 400) ≡ Some (pos 400)
unfolding digits scan_numeral
status_400 = refl

pub status_422 : signed_of 64 (decimal 422) ≡ Some (pos 422)
unfolding digits scan_numeral
status_422 = refl
