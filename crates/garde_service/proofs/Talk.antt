-- From the history of a connection to what is on the wire.
use Rattle.std.proofs.Common.{◌≡◌, ◌≢◌, ◌<◌, ◌≤◌, ◌↔◌, arith, ℕ, Bool, true, false, zero, suc, List, [], ◌∷◌, ◌++◌, length, All, IsTrue, IsErr, Option, None, Some, Result, Ok, Err, refl, sym, ap, subst, subst₂, ◌∙◌, append_assoc, append-nil, inl, inr}
use Rattle.std.specs.Prelude.{⊤, OnOk}
use Rattle.std.specs.Io.KnownBytes as Known
use Rattle.std.specs.Io.KnownBytes.{Consumes}
use Rattle.std.proofs.Math.Logic.{∥∥₁_map}
use Rattle.std.proofs.lemmas.Bool.{true≢false}
use Rattle.std.proofs.lemmas.List.{append_cancel_right}
use Rattle.std.proofs.lemmas.List.Elements.{All-nil, All-cons, All-head, All-tail}
use Rattle.http.specs.declared.request.Parts.{Parts}
use Rattle.http.specs.declared.request.Request.{Request}
use Rattle.http_server.specs.declared.response.Response.{Response}
use Rattle.http_server.specs.declared.state.Config.{Config}
use Rattle.http_server.specs.declared.state.State.{State}
use Rattle.http_server.specs.declared.state.State.TheVariants.{Open, Closing, Upgraded, Aborted}
use Rattle.http_server.specs.declared.state.Reason.TheVariants.{Asked, EndOfInput, Refused}
use Rattle.http_server.specs.declared.connection.Connection.{Connection}
use Rattle.http_server.specs.declared.state.Refusal.{Refusal}
use Rattle.http_server.specs.declared.state.Refusal.TheVariants.{Truncated, Unreadable, BodyTooLarge, InvalidPart, InvalidHost, UnknownCoding, InvalidResponse}
use Rattle.http_server.specs.Connection.{config_of, history}
use Rattle.http_server.specs.Exchange.{Call, Calls, Chain, IsInterim, Serves}
use Rattle.http_server.proofs.KnownLemmas.{Consumes-then}
use Rattle.http_server.proofs.StreamLemmas.{IsInterim-append, Serves-append}
use Rattle.http_server.proofs.Theorems.{always_served}
use Rattle.http_server.specs.History.{History, IsServed, Justifies, Stands, new_history}
use Rattle.http_server.specs.Refusal.{refusal_text}
use Rattle.garde_service.specs.Ending.{Ends, IsRejectionText, Rejects}
use Rattle.garde_service.specs.Fits.{Answered}
use Rattle.garde_service.specs.Heads.{HasHead, IsByHead}
use Rattle.garde_service.specs.Reasons.{IsServiced, IsRefusedFor}
use Rattle.garde_service.specs.Received.{Loses}
use Rattle.garde_service.specs.Wire.{AreExchanges, Follows, IsConversation, IsTalk}
use Rattle.garde_service.proofs.Fitting.{exchange_fits}
use Rattle.garde_service.proofs.ByHead.{came_by_head}

-- of a new connection no end was found
pub ended_first : (P : Type 0) (h : History) → h ≡ new_history → IsTrue h.ended → P
ended_first P h fresh found = absurd (true≢false (sym found ∙ ap (λ (h : History). h.ended) fresh))

-- an error says nothing of what holds on success
pub on_err : {T E : Type 0} (result : Result T E) (P : Type 0) → IsErr result → OnOk result P
on_err (Ok value) P is = absurd (true≢false (sym is))
on_err (Err e) P is = tt

pub nothing_lost : (u v : Option (List ℕ)) (came lost : List ℕ) → lost ≡ [] → Consumes u v (came ++ lost) → Consumes u v came
nothing_lost u v came lost none x =
    subst (λ (t : List ℕ). Consumes u v t) (ap (λ (l : List ℕ). came ++ l) none ∙ append-nil came) x

pub none_lost : (u v : Option (List ℕ)) (came : List ℕ) → Consumes u v came → Consumes u v (came ++ [])
none_lost u v came x = subst (λ (t : List ℕ). Consumes u v t) (sym (append-nil came)) x

pub some_lost : (u v w : Option (List ℕ)) (all came lost : List ℕ) → Consumes u v all → Consumes v w (came ++ lost)
    → Consumes u w ((all ++ came) ++ lost)
some_lost u v w all came lost x y =
    subst (λ (t : List ℕ). Consumes u w t) (sym (append_assoc all came lost)) (Consumes-then u v w all (came ++ lost) x y)

-- what is kept is read as no byte
pub kept : (u v : Option (List ℕ)) → Known.Keeps u v → Consumes u v []
kept None v x = tt
kept (Some a) None x = absurd x
kept (Some a) (Some b) x = sym x

-- where nothing is pending, no more is than may be
pub none_pending : (wants : Bool) (len most : ℕ) → (IsTrue wants ↔ (0 < len)) → wants ≡ false → len ≤ most
none_pending wants zero most is idle = omega arith
none_pending wants (suc n) most is idle = absurd (true≢false (sym (is.1 (omega arith)) ∙ idle))

-- no answer hands the connection over
abbrev pub Stays : Answered → Type 0
Stays answered = (head : Parts) → (body : List ℕ) → (response : Response) → answered head body response → response.status ≢ 101

-- what a service answers from one state to the next
abbrev pub Gives : Type 0 → Type 1
Gives S = S → Request (List ℕ) → Response → S → Type 0

-- The service keeps what this gives of its state, and answers each call by it.
abbrev pub AnswersBy : {S : Type 0} {X : Type 0} → (X → Answered) → Gives S → (S → X) → Type 0
AnswersBy {S} by gives of = (old new : S) → (c : Call) → gives old c.0 c.1 new → (of new ≡ of old) × IsServiced (by (of old)) c

-- each call of such a service is answered so
each_serviced : {S X : Type 0} (by : X → Answered) (gives : Gives S) (of : S → X) → AnswersBy by gives of
    → (x : X) (calls : List Call) (old new : S) → of old ≡ x → Chain gives old calls new → All (IsServiced (by x)) calls
each_serviced by gives of each x [] old new is chain = All-nil (IsServiced (by x))
each_serviced {X = X} by gives of each x (c ∷ calls) old new is chain =
    let one = each old chain.0 c chain.1 in
    All-cons (IsServiced (by x)) c calls (subst (λ (k : X). IsServiced (by k) c) is one.1)
    (each_serviced by gives of each x calls chain.0 new (one.0 ∙ is) chain.2)

-- the calls of such a service
serviced : {S X : Type 0} (by : X → Answered) (gives : Gives S) (of : S → X) → AnswersBy by gives of
    → (x : X) (first last : Connection) (old new : S) → of old ≡ x → history first ≡ new_history
    → Calls gives old new (history first).calls (history last).calls → All (IsServiced (by x)) (history last).calls
serviced by gives of each x first last old new is fresh calls =
    let chain = subst (λ (h : History). Calls gives old new h.calls (history last).calls) fresh calls in
    subst (λ (cs : List Call). All (IsServiced (by x)) cs) (sym chain.1) (each_serviced by gives of each x chain.0 old new is chain.2)

-- A connection that was new, after calls of a service that read and wrote these bytes.
pub record Talked (answered : Answered) (asked : Config) (last : Connection) (read written : List ℕ) : Type 0 where
  pub is_asked : config_of last ≡ asked
  pub received : (history last).received ≡ read
  pub sent : (history last).sent ≡ written
  pub all_serviced : All (IsServiced answered) (history last).calls

pub talked : {S X : Type 0} (by : X → Answered) (gives : Gives S) (of : S → X) → AnswersBy by gives of
    → (x : X) (config : Config) (first last : Connection) (old new : S) → of old ≡ x → (read written : List ℕ)
    → config_of first ≡ config → history first ≡ new_history → config_of last ≡ config_of first
    → (history last).received ≡ (history first).received ++ read → (history last).sent ≡ (history first).sent ++ written
    → Calls gives old new (history first).calls (history last).calls
    → Talked (by x) config last read written
talked by gives of each x config first last old new at read written is fresh kept received sent calls = record {
  is_asked = kept ∙ is;
  received = received ∙ ap (λ (h : History). h.received ++ read) fresh;
  sent = sent ∙ ap (λ (h : History). h.sent ++ written) fresh;
  all_serviced = serviced by gives of each x first last old new at fresh calls;
}

-- more that came while the connection was open
more_came : (config : Config) (h : History) (lost : List ℕ) → IsServed config h → h.state ≡ Open
    → IsServed config (record h { received = h.received ++ lost })
more_came config h lost x is_open = record {
  answered = x.answered;
  text = x.text;
  rest = x.rest ++ lost;
  serves = Serves-append config x.answered h.received x.text x.rest lost x.serves;
  interim = x.interim;
  is_interim = IsInterim-append config.limits x.rest x.interim lost x.is_interim;
  stands = subst (λ (s : State). Stands s config (record h { received = h.received ++ lost }) x.answered x.text x.interim (x.rest ++ lost)) (sym is_open)
      (subst (λ (s : State). Stands s config h x.answered x.text x.interim x.rest) is_open x.stands);
}

-- what may be written last, where more may
abbrev pub IsAllowed : Type 0 → State → Type 0
IsAllowed plain s = (why : Refusal) → s ≡ Closing (Refused why) → plain

module _ (answered : Answered) (rejects : Rejects) (stays : Stays answered) where
  -- the exchanges of the calls
  all_fit : (config : Config) (calls : List Call) (stream text rest : List ℕ) → All (IsServiced answered) calls
      → Serves config stream calls text rest → AreExchanges answered config (length calls) stream text rest
  all_fit config [] stream text rest fine x = x
  all_fit config (c ∷ calls) stream text rest fine x = (
    x.0,
    x.1,
    x.2,
    x.3,
    exchange_fits answered config true stream x.0 x.1 c (All-head (IsServiced answered) c calls fine) x.4,
    all_fit config calls x.1 x.2 rest (All-tail (IsServiced answered) c calls fine) x.5,
  )

  -- the last of the calls is answered
  last_of : (calls : List Call) (c : Call) → All (IsServiced answered) (calls ++ c ∷ []) → (IsServiced answered) c
  last_of [] c fine = All-head (IsServiced answered) c [] fine
  last_of (x ∷ xs) c fine = last_of xs c (All-tail (IsServiced answered) x (xs ++ c ∷ []) fine)

  -- the calls that were answered are the first of the calls
  first_of : (calls more : List Call) → All (IsServiced answered) (calls ++ more) → All (IsServiced answered) calls
  first_of [] more fine = All-nil (IsServiced answered)
  first_of (x ∷ xs) more fine =
      All-cons (IsServiced answered) x xs (All-head (IsServiced answered) x (xs ++ more) fine) (first_of xs more (All-tail (IsServiced answered) x (xs ++ more) fine))

  moved : (calls others : List Call) → calls ≡ others → All (IsServiced answered) calls → All (IsServiced answered) others
  moved calls others is fine = subst (λ (cs : List Call). All (IsServiced answered) cs) is fine

  -- the calls that were answered, by the state
  refused_first : (why : Refusal) (config : Config) (h : History) (calls : List Call) (rest : List ℕ)
      → All (IsServiced answered) h.calls → Justifies why config h calls rest → All (IsServiced answered) calls
  refused_first Truncated config h calls rest fine x = moved _ _ x.0 fine
  refused_first (Unreadable e) config h calls rest fine x = moved _ _ x.0 fine
  refused_first BodyTooLarge config h calls rest fine x = moved _ _ x.0 fine
  refused_first (InvalidPart e) config h calls rest fine x = moved _ _ x.0 fine
  refused_first InvalidHost config h calls rest fine x = moved _ _ x.0 fine
  refused_first UnknownCoding config h calls rest fine x = moved _ _ x.0 fine
  refused_first (InvalidResponse e) config h calls rest fine x = first_of calls (x.1.call ∷ []) (moved _ _ x.1.calls fine)

  first_at : (s : State) (config : Config) (h : History) (calls : List Call) (text interim rest : List ℕ)
      → All (IsServiced answered) h.calls → Stands s config h calls text interim rest → All (IsServiced answered) calls
  first_at Open config h calls text interim rest fine x = moved _ _ x.0 fine
  first_at (Closing Asked) config h calls text interim rest fine x = first_of calls (x.0 ∷ []) (moved _ _ x.4 fine)
  first_at (Closing EndOfInput) config h calls text interim rest fine x = moved _ _ x.0 fine
  first_at (Closing (Refused why)) config h calls text interim rest fine x = refused_first why config h calls rest fine x.0
  first_at Upgraded config h calls text interim rest fine x = first_of calls (x.last.call ∷ []) (moved _ _ x.last.calls fine)
  first_at Aborted config h calls text interim rest fine x =
      elim x.calls [
        | inl same ↦ moved _ _ same fine
        | inr more ↦ first_of calls (more.0 ∷ []) (moved _ _ more.1 fine)
      ]

  -- why the next request is refused, of the bytes alone
  reason_of : (why : Refusal) (config : Config) (h : History) (calls : List Call) (rest : List ℕ)
      → All (IsServiced answered) h.calls → Justifies why config h calls rest → IsRefusedFor answered why config h.ended rest
  reason_of Truncated config h calls rest fine x = (x.1, x.2, x.3)
  reason_of (Unreadable e) config h calls rest fine x = (x.1, x.2)
  reason_of BodyTooLarge config h calls rest fine x = x.1
  reason_of (InvalidPart e) config h calls rest fine x = x.1
  reason_of InvalidHost config h calls rest fine x = x.1
  reason_of UnknownCoding config h calls rest fine x = x.1
  reason_of (InvalidResponse e) config h calls rest fine x =
      (x.1.call, last_of calls x.1.call (moved _ _ x.1.calls fine), x.1.message, x.0, x.1.request, x.2)

  -- nothing was lost, unless memory ran out
  abbrev pub Keeps : State → List ℕ → Type 0
  Keeps Aborted lost = Unit {0}
  Keeps state lost = lost ≡ []

  -- what follows the exchanges, by the state: what was handed out, what is pending and what was lost are the answers and the rest
  abbrev Ending : Type 0 → State → Config → History → List ℕ → List ℕ → Type 0
  Ending plain s config h text rest =
      (last : List ℕ) × Follows answered rejects plain s config h.ended h.received rest last × (lost : List ℕ) × ((h.sent ++ h.pending) ++ lost ≡ text ++ last) × Keeps s lost

  ends_at : (plain : Type 0) (s : State) (config : Config) (h : History) (calls : List Call) (text interim rest : List ℕ)
      → IsAllowed plain s → (IsByHead rest → HasHead h.received) → IsInterim config.limits rest interim → All (IsServiced answered) h.calls → Stands s config h calls text interim rest
      → Ending plain s config h text rest
  ends_at plain Open config h calls text interim rest may by_head waits fine x = (interim, waits, [], append-nil (h.sent ++ h.pending) ∙ x.1, refl)
  ends_at plain (Closing Asked) config h calls text interim rest may by_head waits fine x = (
    x.1,
    (x.2, exchange_fits answered config false rest x.1 x.2 x.0 (last_of calls x.0 (moved _ _ x.4 fine)) x.3),
    [],
    append-nil (h.sent ++ h.pending) ∙ x.5,
    refl,
  )
  ends_at plain (Closing EndOfInput) config h calls text interim rest may by_head waits fine x =
      ([], (x.1, x.2, refl), [], append-nil (h.sent ++ h.pending) ∙ x.3 ∙ sym (append-nil text), refl)
  ends_at plain (Closing (Refused why)) config h calls text interim rest may by_head waits fine x = (
    interim ++ refusal_text why,
    (reason_of why config h calls rest fine x.0, by_head, (interim, waits, (refusal_text why, inl (may why refl, refl), refl))),
    [],
    append-nil (h.sent ++ h.pending) ∙ x.1 ∙ append_assoc text interim (refusal_text why),
    refl,
  )
  ends_at plain Upgraded config h calls text interim rest may by_head waits fine x =
      absurd (stays _ _ _ (last_of calls x.last.call (moved _ _ x.last.calls fine)) x.accepted)
  ends_at plain Aborted config h calls text interim rest may by_head waits fine x = (
    interim,
    (waits, x.had_work),
    x.lost,
    ap (λ (p : List ℕ). (h.sent ++ p) ++ x.lost) x.dropped ∙ ap (λ (t : List ℕ). t ++ x.lost) (append-nil h.sent) ∙ x.sent,
    tt,
  )

  -- what a connection read and wrote, has yet to write, and lost
  abbrev pub Conversed : Type 0 → Config → State → Bool → List ℕ → List ℕ → Type 0
  Conversed plain config state ended read text =
      (lost : List ℕ) × IsConversation answered rejects plain config state ended read (text ++ lost) × Keeps state lost

  conversation : (plain : Type 0) (config : Config) (h : History) → IsAllowed plain h.state → All (IsServiced answered) h.calls → IsServed config h
      → Conversed plain config h.state h.ended h.received (h.sent ++ h.pending)
  conversation plain config h may fine x =
      let first = first_at h.state config h x.answered x.text x.interim x.rest fine x.stands in
      let by_head = came_by_head config x.answered h.received x.text x.rest x.serves in
      let end = ends_at plain h.state config h x.answered x.text x.interim x.rest may by_head x.is_interim fine x.stands in (
        end.2,
        record {
          count = length x.answered;
          answers = x.text;
          rest = x.rest;
          exchanges = all_fit config x.answered h.received x.text x.rest first x.serves;
          last = end.0;
          follows = end.1;
          joined = end.3;
        },
        end.4,
      )

  -- where the bytes that are pending end in a refusal, what stands in its place ends the conversation as well
  replaced : (plain : Type 0) (config : Config) (why : Refusal) (h : History) (front text : List ℕ) → All (IsServiced answered) h.calls → IsServed config h
      → h.state ≡ Closing (Refused why) → h.pending ≡ front ++ refusal_text why → IsRejectionText rejects (HasHead h.received) why text
      → IsConversation answered rejects plain config (Closing (Refused why)) h.ended h.received (h.sent ++ (front ++ text))
  replaced plain config why h front text fine x closes ends stands =
      let first = first_at h.state config h x.answered x.text x.interim x.rest fine x.stands in
      let there : Stands (Closing (Refused why)) config h x.answered x.text x.interim x.rest =
      subst (λ (s : State). Stands s config h x.answered x.text x.interim x.rest) closes x.stands in
      let sent : h.sent ++ front ≡ x.text ++ x.interim =
      append_cancel_right (h.sent ++ front) (x.text ++ x.interim) (refusal_text why)
      (append_assoc h.sent front (refusal_text why) ∙ ap (λ (p : List ℕ). h.sent ++ p) (sym ends) ∙ there.1) in
      record {
        count = length x.answered;
        answers = x.text;
        rest = x.rest;
        exchanges = all_fit config x.answered h.received x.text x.rest first x.serves;
        last = x.interim ++ text;
        follows = (
          reason_of why config h x.answered x.rest fine there.0,
          came_by_head config x.answered h.received x.text x.rest x.serves,
          (x.interim, x.is_interim, (text, inr stands, refl)),
        );
        joined = sym (append_assoc h.sent front text) ∙ ap (λ (t : List ℕ). t ++ text) sent ∙ append_assoc x.text x.interim text;
      }

  -- ---- what a call returned, by how much of what was to be written it wrote

  -- all that is written in the end, for bytes that are pending
  whole : (was plain : Type 0) (config : Config) (h : History) (text : List ℕ) → (was → plain) → All (IsServiced answered) h.calls → IsServed config h
      → Ends rejects was h.state h.received h.pending text → Conversed plain config h.state h.ended h.received (h.sent ++ text)
  whole was plain config h text so fine x ends =
      elim ends [
        | inl same ↦
            subst (λ (p : List ℕ). Conversed plain config h.state h.ended h.received (h.sent ++ p)) (sym same.0)
            (conversation plain config h (λ why is. so (same.1 why is)) fine x)
        | inr other ↦
            subst₂ (λ (s : State) (t : List ℕ). Conversed plain config s h.ended h.received (h.sent ++ t)) (sym other.3) (sym other.6) (
              [],
              subst (λ (t : List ℕ). IsConversation answered rejects plain config (Closing (Refused other.0)) h.ended h.received t) (sym (append-nil (h.sent ++ (other.1 ++ other.2))))
                  (replaced plain config other.0 h other.1 other.2 fine x other.3 other.4 other.5),
              refl,
            )
      ]

  -- an error, where this part of it was written
  failing : (E was : Type 0) (config : Config) (h : History) (part unwritten : List ℕ) (e : E) → All (IsServiced answered) h.calls → IsServed config h
      → Ends rejects was h.state h.received h.pending (part ++ unwritten) → IsTalk answered rejects config h.ended h.received (h.sent ++ part) (Err e)
  failing E was config h part unwritten e fine x ends =
      let all = whole was ⊤ config h (part ++ unwritten) (λ _. tt) fine x ends in
      let joined : (h.sent ++ (part ++ unwritten)) ++ all.0 ≡ (h.sent ++ part) ++ (unwritten ++ all.0) =
      ap (λ (t : List ℕ). t ++ all.0) (sym (append_assoc h.sent part unwritten)) ∙ append_assoc (h.sent ++ part) unwritten all.0 in
      (h.state, unwritten ++ all.0, subst (λ (t : List ℕ). IsConversation answered rejects ⊤ config h.state h.ended h.received t) joined all.1)

  -- all of it was written
  ending : (E : Type 0) (s : State) (config : Config) (at_end : Bool) (read text : List ℕ) → s ≢ Open → Conversed ⊥ config s at_end read text
      → IsTalk {E = E} answered rejects config at_end read text (Ok s)
  ending E Open config at_end read text shut all = absurd (shut refl)
  ending E (Closing why) config at_end read text shut all =
      subst (λ (t : List ℕ). IsConversation answered rejects ⊥ config (Closing why) at_end read t) (ap (λ (l : List ℕ). text ++ l) all.2 ∙ append-nil text) all.1
  ending E Upgraded config at_end read text shut all = absurd all.1.follows
  ending E Aborted config at_end read text shut all = (all.0, all.1)

  -- the same of the bytes that were read and written
  of_bytes : (E : Type 0) (config : Config) (last : Connection) (read written lost part : List ℕ) (result : Result State E) → Talked answered config last read written
      → ∥ IsTalk answered rejects (config_of last) (history last).ended ((history last).received ++ lost) ((history last).sent ++ part) result ∥₁
      → ∥ IsTalk answered rejects config (history last).ended (read ++ lost) (written ++ part) result ∥₁
  of_bytes E config last read written lost part result t talk =
      subst (λ (k : Config). ∥ IsTalk answered rejects k (history last).ended (read ++ lost) (written ++ part) result ∥₁) t.is_asked
      (subst (λ (r : List ℕ). ∥ IsTalk answered rejects (config_of last) (history last).ended (r ++ lost) (written ++ part) result ∥₁) t.received
      (subst (λ (w : List ℕ). ∥ IsTalk answered rejects (config_of last) (history last).ended ((history last).received ++ lost) (w ++ part) result ∥₁) t.sent talk))

  -- where nothing that was read was lost
  of_all : (E : Type 0) (config : Config) (last : Connection) (read written part : List ℕ) (result : Result State E) → Talked answered config last read written
      → ∥ IsTalk answered rejects (config_of last) (history last).ended (history last).received ((history last).sent ++ part) result ∥₁
      → ∥ IsTalk answered rejects config (history last).ended read (written ++ part) result ∥₁
  of_all E config last read written part result t talk =
      subst (λ (r : List ℕ). ∥ IsTalk answered rejects config (history last).ended r (written ++ part) result ∥₁) (append-nil read)
      (of_bytes E config last read written [] part result t
      (subst (λ (r : List ℕ). ∥ IsTalk answered rejects (config_of last) (history last).ended r ((history last).sent ++ part) result ∥₁)
      (sym (append-nil (history last).received)) talk))

  pub failed : (E was : Type 0) (config : Config) (last : Connection) (read written part unwritten : List ℕ) (e : E) → Talked answered config last read written
      → Ends rejects was (history last).state (history last).received (history last).pending (part ++ unwritten)
      → ∥ IsTalk answered rejects config (history last).ended read (written ++ part) (Err e) ∥₁
  failed E was config last read written part unwritten e t ends =
      of_all E config last read written part (Err e) t
      (∥∥₁_map (always_served last) (λ x. failing E was _ _ part unwritten e t.all_serviced x ends))

  at_once : (E : Type 0) (config : Config) (h : History) (e : E) → All (IsServiced answered) h.calls → IsServed config h
      → IsTalk answered rejects config h.ended h.received (h.sent ++ []) (Err e)
  at_once E config h e fine x = failing E ⊤ config h [] h.pending e fine x (inl (refl, λ why is. tt))

  lost_then : (E : Type 0) (config : Config) (h : History) (lost : List ℕ) (e : E) → Loses h.state lost → All (IsServiced answered) h.calls
      → IsServed config h → IsTalk answered rejects config h.ended (h.received ++ lost) (h.sent ++ []) (Err e)
  lost_then E config h lost e loses fine x =
      elim loses [
        | inl none ↦
            subst (λ (r : List ℕ). IsTalk answered rejects config h.ended r (h.sent ++ []) (Err e))
            (sym (ap (λ (l : List ℕ). h.received ++ l) none ∙ append-nil h.received)) (at_once E config h e fine x)
        | inr is_open ↦ at_once E config (record h { received = h.received ++ lost }) e fine (more_came config h lost x is_open)
      ]

  -- an error before the connection was done
  pub failed_at_once : (E : Type 0) (config : Config) (last : Connection) (read lost written : List ℕ) (e : E) → Talked answered config last read written
      → Loses (history last).state lost → ∥ IsTalk answered rejects config (history last).ended (read ++ lost) written (Err e) ∥₁
  failed_at_once E config last read lost written e t loses =
      subst (λ (w : List ℕ). ∥ IsTalk answered rejects config (history last).ended (read ++ lost) w (Err e) ∥₁) (append-nil written)
      (of_bytes E config last read written lost [] (Err e) t
      (∥∥₁_map (always_served last) (λ x. lost_then E _ (history last) lost e loses t.all_serviced x)))

  pub closed : (E was : Type 0) (config : Config) (last : Connection) (read written part unwritten : List ℕ) (s : State) → Talked answered config last read written
      → s ≡ (history last).state → (history last).state ≢ Open → (was → ⊥)
      → Ends rejects was (history last).state (history last).received (history last).pending (part ++ unwritten) → unwritten ≡ []
      → ∥ IsTalk {E = E} answered rejects config (history last).ended read (written ++ part) (Ok s) ∥₁
  closed E was config last read written part unwritten s t is shut done ends all =
      let text : part ++ unwritten ≡ part = ap (λ (u : List ℕ). part ++ u) all ∙ append-nil part in
      subst (λ (s : State). ∥ IsTalk {E = E} answered rejects config (history last).ended read (written ++ part) (Ok s) ∥₁) (sym is)
      (of_all E config last read written part (Ok (history last).state) t
      (∥∥₁_map (always_served last) (λ x. ending E (history last).state _ _ _ _ shut
      (whole was ⊥ _ _ part done t.all_serviced x
      (subst (λ (p : List ℕ). Ends rejects was (history last).state (history last).received (history last).pending p) text ends)))))

  -- an error of any kind
  pub of_err : (E : Type 0) (config : Config) (at_end : Bool) (read written : List ℕ) (result : Result State E) → IsErr result
      → ((e : E) → ∥ IsTalk answered rejects config at_end read written (Err e) ∥₁) → ∥ IsTalk answered rejects config at_end read written result ∥₁
  of_err E config at_end read written (Ok s) is all = absurd (true≢false (sym is))
  of_err E config at_end read written (Err e) is all = all e
