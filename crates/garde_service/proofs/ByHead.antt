-- What was seen of `HEAD `, and what came.
use Rattle.std.proofs.Common.{◌≡◌, ℕ, Bool, true, false, List, [], ◌∷◌, ◌++◌, codes, Option, ◌==◌, if◌then◌else◌, refl, sym, ap, subst, ◌∙◌, append_assoc, append-nil, inl, inr}
use Rattle.std.specs.Prelude.{⊤}
use Rattle.std.proofs.lemmas.Bool.{eqb-true, true≢false}
use Rattle.http1.specs.Body.{Body, ReadsBody}
use Rattle.http1.specs.declared.conn.Limits.{Limits}
use Rattle.http1.specs.declared.framing.Framing.{Framing}
use Rattle.http1.specs.declared.framing.Framing.TheVariants.{NoBody, Length, Chunked, UntilClose}
use Rattle.http1.specs.Message as Wire
use Rattle.http1.specs.Message.{ReadsRequestMessage}
use Rattle.http_server.specs.declared.state.Config.{Config}
use Rattle.http_server.specs.Exchange.{Call, Serves}
use Rattle.garde_service.specs.Ending.{IsContent, Rejects}
use Rattle.garde_service.specs.Heads.{HasHead, IsByHead, begun, looked, next}
use Rattle.garde_service.specs.declared.heads.Seen.{Seen}
use Rattle.garde_service.specs.declared.rejected.Rejected.{Rejected}
use Rattle.garde_service.specs.declared.heads.Seen.TheVariants.{Nothing, H, He, Hea, Head, Found}

found_stays : (bytes : List ℕ) → looked Found bytes ≡ Found
found_stays [] = refl
found_stays (byte ∷ bytes) = found_stays bytes

pub looked-append : (seen : Seen) (bytes more : List ℕ) → looked seen (bytes ++ more) ≡ looked (looked seen bytes) more
looked-append seen [] more = refl
looked-append seen (byte ∷ bytes) more = looked-append (next seen byte) bytes more

-- whatever was seen before
found_at : (seen : Seen) (more : List ℕ) → looked seen (codes "HEAD " ++ more) ≡ Found
found_at Nothing more = found_stays more
found_at H more = found_stays more
found_at He more = found_stays more
found_at Hea more = found_stays more
found_at Head more = found_stays more
found_at Found more = found_stays more

-- ---- what follows requests ends the stream

-- this ends the stream
abbrev IsEnd : List ℕ → List ℕ → Type 0
IsEnd stream rest = (front : List ℕ) × (stream ≡ front ++ rest)

end_of_end : (stream middle rest : List ℕ) → IsEnd stream middle → IsEnd middle rest → IsEnd stream rest
end_of_end stream middle rest a b =
    (a.0 ++ b.0, a.1 ∙ ap (λ (t : List ℕ). a.0 ++ t) b.1 ∙ sym (append_assoc a.0 b.0 rest))

end_of_body : (limits : Limits) (framing : Framing) (stream : List ℕ) (body : Body) (rest : List ℕ) → ReadsBody limits framing stream body rest
    → IsEnd stream rest
end_of_body limits NoBody stream body rest x = (body.bytes, x.1)
end_of_body limits (Length n) stream body rest x = (body.bytes, x.1)
end_of_body limits Chunked stream body rest x =
    end_of_end stream x.after rest (_, x.reads.1) (_, x.trailers.reads.1)
end_of_body limits UntilClose stream body rest x =
    (stream, sym (ap (λ (t : List ℕ). stream ++ t) x.2 ∙ append-nil stream))

end_of_request : (limits : Limits) (stream : List ℕ) (m : Wire.Request) (rest : List ℕ) → ReadsRequestMessage limits stream m rest → IsEnd stream rest
end_of_request limits stream m rest x =
    end_of_end stream x.after_head rest (_, x.head.reads.1) (end_of_body limits x.framing x.after_head m.body rest x.body)

end_of_calls : (config : Config) (calls : List Call) (stream text rest : List ℕ) → Serves config stream calls text rest → IsEnd stream rest
end_of_calls config [] stream text rest x = ([], x.0)
end_of_calls config (c ∷ calls) stream text rest x =
    end_of_end stream x.1 rest (end_of_request config.limits stream x.4.message x.1 x.4.request.reads)
    (end_of_calls config calls x.1 x.2 rest x.5)

-- a request by `HEAD` that follows those that were answered
pub came_by_head : (config : Config) (calls : List Call) (stream text rest : List ℕ) → Serves config stream calls text rest
    → IsByHead rest → HasHead stream
came_by_head config calls stream text rest x by_head =
    let end = end_of_calls config calls stream text rest x in (end.0, by_head.0, end.1 ∙ ap (λ (t : List ℕ). end.0 ++ t) by_head.1)

-- ---- what was found is among the bytes, and what is among them is found

pub has_found : (bytes : List ℕ) → HasHead bytes → looked Nothing bytes ≡ Found
has_found bytes x =
    ap (λ (t : List ℕ). looked Nothing t) x.2 ∙ looked-append Nothing x.0 (codes "HEAD " ++ x.1) ∙ found_at (looked Nothing x.0) x.1

behind : (front bytes : List ℕ) → HasHead bytes → HasHead (front ++ bytes)
behind front bytes x = (front ++ x.0, x.1, ap (λ (t : List ℕ). front ++ t) x.2 ∙ sym (append_assoc front x.0 (codes "HEAD " ++ x.1)))

-- by whether the next byte is the one that was looked for
by_next : (is : Bool) (reached other : Seen) (bytes : List ℕ) (T P : Type 0) → (is ≡ true → T) → (T → looked reached bytes ≡ Found → P)
    → (looked other bytes ≡ Found → P) → looked (if is then reached else other) bytes ≡ Found → P
by_next true reached other bytes T P means f g x = f (means refl) x
by_next false reached other bytes T P means f g x = g x

begun_has : (byte : ℕ) (bytes : List ℕ) → (looked H bytes ≡ Found → HasHead (72 ∷ bytes)) → (looked Nothing bytes ≡ Found → HasHead bytes)
    → looked (begun byte) bytes ≡ Found → HasHead (byte ∷ bytes)
begun_has byte bytes first none x =
    by_next (byte == 72) H Nothing bytes (byte ≡ 72) (HasHead (byte ∷ bytes)) (eqb-true byte 72)
    (λ is y. subst (λ (b : ℕ). HasHead (b ∷ bytes)) (sym is) (first y)) (λ y. behind (byte ∷ []) bytes (none y)) x

-- it was found before, or it is among the bytes that were seen and these
abbrev IsAmong : Seen → List ℕ → Type 0
IsAmong Nothing bytes = HasHead bytes
IsAmong H bytes = HasHead (72 ∷ bytes)
IsAmong He bytes = HasHead (72 ∷ 69 ∷ bytes)
IsAmong Hea bytes = HasHead (72 ∷ 69 ∷ 65 ∷ bytes)
IsAmong Head bytes = HasHead (72 ∷ 69 ∷ 65 ∷ 68 ∷ bytes)
IsAmong Found bytes = ⊤

abbrev is_found : Seen → Bool
is_found Found = true
is_found _ = false

not_yet : (seen : Seen) (P : Type 0) → is_found seen ≡ false → seen ≡ Found → P
not_yet seen P none found = absurd (true≢false (sym (ap is_found found) ∙ none))

found_among : (seen : Seen) (bytes : List ℕ) → looked seen bytes ≡ Found → IsAmong seen bytes
found_among Found bytes x = tt
found_among Nothing [] x = not_yet Nothing _ refl x
found_among H [] x = not_yet H _ refl x
found_among He [] x = not_yet He _ refl x
found_among Hea [] x = not_yet Hea _ refl x
found_among Head [] x = not_yet Head _ refl x
found_among Nothing (byte ∷ bytes) x = begun_has byte bytes (found_among H bytes) (found_among Nothing bytes) x
found_among H (byte ∷ bytes) x =
    by_next (byte == 69) He (begun byte) bytes (byte ≡ 69) (HasHead (72 ∷ byte ∷ bytes)) (eqb-true byte 69)
    (λ is y. subst (λ (b : ℕ). HasHead (72 ∷ b ∷ bytes)) (sym is) (found_among He bytes y))
    (λ y. behind (72 ∷ []) (byte ∷ bytes) (begun_has byte bytes (found_among H bytes) (found_among Nothing bytes) y)) x
found_among He (byte ∷ bytes) x =
    by_next (byte == 65) Hea (begun byte) bytes (byte ≡ 65) (HasHead (72 ∷ 69 ∷ byte ∷ bytes)) (eqb-true byte 65)
    (λ is y. subst (λ (b : ℕ). HasHead (72 ∷ 69 ∷ b ∷ bytes)) (sym is) (found_among Hea bytes y))
    (λ y. behind (72 ∷ 69 ∷ []) (byte ∷ bytes) (begun_has byte bytes (found_among H bytes) (found_among Nothing bytes) y)) x
found_among Hea (byte ∷ bytes) x =
    by_next (byte == 68) Head (begun byte) bytes (byte ≡ 68) (HasHead (72 ∷ 69 ∷ 65 ∷ byte ∷ bytes)) (eqb-true byte 68)
    (λ is y. subst (λ (b : ℕ). HasHead (72 ∷ 69 ∷ 65 ∷ b ∷ bytes)) (sym is) (found_among Head bytes y))
    (λ y. behind (72 ∷ 69 ∷ 65 ∷ []) (byte ∷ bytes) (begun_has byte bytes (found_among H bytes) (found_among Nothing bytes) y)) x
found_among Head (byte ∷ bytes) x =
    by_next (byte == 32) Found (begun byte) bytes (byte ≡ 32) (HasHead (72 ∷ 69 ∷ 65 ∷ 68 ∷ byte ∷ bytes)) (eqb-true byte 32)
    (λ is y. subst (λ (b : ℕ). HasHead (72 ∷ 69 ∷ 65 ∷ 68 ∷ b ∷ bytes)) (sym is) ([], bytes, refl))
    (λ y. behind (72 ∷ 69 ∷ 65 ∷ 68 ∷ []) (byte ∷ bytes) (begun_has byte bytes (found_among H bytes) (found_among Nothing bytes) y)) x

-- the content of a rejection, by what was seen and by the bytes
pub content_by_bytes : (rejects : Rejects) (kind : Rejected) (body : Option (List ℕ × List ℕ)) (seen : Seen) (bytes : List ℕ)
    → seen ≡ looked Nothing bytes → IsContent rejects (seen ≡ Found) kind body → IsContent rejects (HasHead bytes) kind body
content_by_bytes rejects kind body seen bytes is x =
    elim x [
      | inl none ↦ inl (found_among Nothing bytes (sym is ∙ none.0), none.1)
      | inr some ↦ inr (λ has. some.0 (is ∙ has_found bytes has), some.1)
    ]
