-- What a segment begins with, up to the last byte of its length, fed at once.
use Rattle.std.proofs.Common.{◌≡◌, ℕ, ◌+◌, ◌<◌, ◌≤◌, List, [], ◌∷◌, length, get_or, refl, sym, ◌∙◌, ap, subst, arith}
use Rattle.std.specs.Prelude.{None}
use Rattle.std.specs.List.{concat}
use Rattle.std.proofs.lemmas.List.{append-nil}
use Rattle.std.proofs.lemmas.Bool.{lt-ltb}
use Rattle.zy_read.specs.Format.{read_on}
use Rattle.zy_read.specs.Standing.{Feeds}
use Rattle.zy_read.specs.Fields.{at_state, step}
use Rattle.zy_read.proofs.Feeding.{fed_by, fed_on}
use Rattle.zy_read.proofs.FieldLemmas.{runs_read, run_fed}
use Rattle.zy_read.proofs.OverLemmas.{over_then, over_join}
use Rattle.zy_capture.specs.declared.due.Due.TheVariants.{Tag, Connection, Length}
use Rattle.zy_capture.specs.declared.capture_state.CaptureState.{CaptureState}
use Rattle.zy_capture.specs.Capture.{capture_limit}
use Rattle.zy_capture.specs.Steps.{CaptureProgress, to, number, fields, headed}
use Rattle.zy_capture.specs.Verdict.{captures, good}
use Rattle.zy_capture.specs.Verdict.Verdict.{Bad}
use Rattle.zy_capture.proofs.PartLemmas.{Over}
use Rattle.zy_capture.proofs.WholeLemmas.{lawful}

-- a tag and a connection lead to the length
pub conn_leads : (s : CaptureState) (at : ℕ) (conn : List ℕ) → s.due ≡ Tag → length conn ≡ 4 → number conn < s.count → Over s at (83 ∷ conn) (to s (Length (number conn))) []
conn_leads s at conn is four few =
    over_join fields s (to s Connection) (to s (Length (number conn))) at (83 ∷ []) conn [] [] (over_then fields s (to s Connection) at (83 ∷ []) (rw is refl) (rw is refl))
    (over_then fields (to s Connection) (to s (Length (number conn))) (at + 1) conn four (rw (lt-ltb (number conn) s.count few) refl))

conn_read : (s : CaptureState) (at : ℕ) (conn : List ℕ) → at + 5 ≤ capture_limit → s.due ≡ Tag → length conn ≡ 4 → number conn < s.count
    → read_on (step fields) (at_state s at) (83 ∷ conn) ≡ record { given = []; last = at_state (to s (Length (number conn))) (at + 5) }
unfolding read_on
conn_read s at conn room is four few =
    let over : Over s at (83 ∷ conn) (to s (Length (number conn))) [] = conn_leads s at conn is four few in
    let size : length (concat over.parts) ≡ 5 = omega (arith, ap (λ (l : List ℕ). length l) over.text_is, four) in
    ap (λ (l : List ℕ). read_on (step fields) (at_state s at) l) (sym over.text_is ∙ sym (append-nil (concat over.parts)))
    ∙ runs_read fields lawful over.parts s (to s (Length (number conn))) at (at + 5) [] [] (omega (arith, size)) room over.runs

-- a place where nothing of a field was read
pub plain : (p : CaptureProgress) → p.fault ≡ None → p.seen ≡ [] → p ≡ at_state p.state p.at
plain p none empty = ap (λ o. record { state = p.state; seen = p.seen; at = p.at; fault = o }) none ∙ ap (λ l. record { state = p.state; seen = l; at = p.at; fault = None }) empty

-- they are fed
pub head_fed : (p q : CaptureProgress) (a b c d e f g : ℕ) → p.state.due ≡ Tag → p.fault ≡ None → p.seen ≡ [] → p.at + 8 ≤ capture_limit → number (a ∷ b ∷ c ∷ d ∷ []) < p.state.count
    → q ≡ headed p (number (a ∷ b ∷ c ∷ d ∷ [])) (e ∷ f ∷ g ∷ []) → Feeds captures p q (83 ∷ a ∷ b ∷ c ∷ d ∷ e ∷ f ∷ g ∷ []) []
head_fed p q a b c d e f g is none empty room few same =
    let conn : ℕ = number (a ∷ b ∷ c ∷ d ∷ []) in
    let s : CaptureState = p.state in
    let last : CaptureState = to s (Length conn) in
    let middle : CaptureProgress = at_state last (p.at + 5) in
    let first : read_on (step fields) p (83 ∷ a ∷ b ∷ c ∷ d ∷ []) ≡ record { given = []; last = middle } =
    ap (λ (x : CaptureProgress). read_on (step fields) x (83 ∷ a ∷ b ∷ c ∷ d ∷ [])) (plain p none empty) ∙ conn_read s p.at (a ∷ b ∷ c ∷ d ∷ []) (omega (arith, room)) is refl few in
    let places : headed p conn (e ∷ f ∷ g ∷ []) ≡ record { state = last; seen = e ∷ f ∷ g ∷ []; at = p.at + 5 + 3; fault = None } =
    ap (λ o. record { state = last; seen = e ∷ f ∷ g ∷ []; at = p.at + 8; fault = o }) none ∙ ap (λ n. record { state = last; seen = e ∷ f ∷ g ∷ []; at = n; fault = None }) (omega arith) in
    fed_on captures p middle q (83 ∷ a ∷ b ∷ c ∷ d ∷ []) (e ∷ f ∷ g ∷ []) [] [] (fed_by captures p middle (83 ∷ a ∷ b ∷ c ∷ d ∷ []) [] first)
    (run_fed fields good Bad middle q (e ∷ f ∷ g ∷ []) refl (omega arith) (omega (arith, room)) (same ∙ places))

-- eight bytes by their places
pub eight : (l : List ℕ) → length l ≡ 8 → l ≡ get_or l 0 0 ∷ get_or l 1 0 ∷ get_or l 2 0 ∷ get_or l 3 0 ∷ get_or l 4 0 ∷ get_or l 5 0 ∷ get_or l 6 0 ∷ get_or l 7 0 ∷ []
eight (a ∷ b ∷ c ∷ d ∷ e ∷ f ∷ g ∷ h ∷ []) is = refl
eight [] is = absurd (omega (arith, is))
eight (a ∷ []) is = absurd (omega (arith, is))
eight (a ∷ b ∷ []) is = absurd (omega (arith, is))
eight (a ∷ b ∷ c ∷ []) is = absurd (omega (arith, is))
eight (a ∷ b ∷ c ∷ d ∷ []) is = absurd (omega (arith, is))
eight (a ∷ b ∷ c ∷ d ∷ e ∷ []) is = absurd (omega (arith, is))
eight (a ∷ b ∷ c ∷ d ∷ e ∷ f ∷ []) is = absurd (omega (arith, is))
eight (a ∷ b ∷ c ∷ d ∷ e ∷ f ∷ g ∷ []) is = absurd (omega (arith, is))
eight (a ∷ b ∷ c ∷ d ∷ e ∷ f ∷ g ∷ h ∷ i ∷ l) is = absurd (omega (arith, is))

-- eight bytes of which the first is this one are fed
pub head_of : (p q : CaptureProgress) (l : List ℕ) (conn : ℕ) → p.state.due ≡ Tag → p.fault ≡ None → p.seen ≡ [] → length l ≡ 8 → get_or l 0 0 ≡ 83 → p.at + 8 ≤ capture_limit
    → conn ≡ number (get_or l 1 0 ∷ get_or l 2 0 ∷ get_or l 3 0 ∷ get_or l 4 0 ∷ []) → conn < p.state.count
    → q ≡ headed p conn (get_or l 5 0 ∷ get_or l 6 0 ∷ get_or l 7 0 ∷ []) → Feeds captures p q l []
head_of p q l conn is none empty long first room told few same =
    let fed : Feeds captures p q (83 ∷ get_or l 1 0 ∷ get_or l 2 0 ∷ get_or l 3 0 ∷ get_or l 4 0 ∷ get_or l 5 0 ∷ get_or l 6 0 ∷ get_or l 7 0 ∷ []) [] =
    head_fed p q (get_or l 1 0) (get_or l 2 0) (get_or l 3 0) (get_or l 4 0) (get_or l 5 0) (get_or l 6 0) (get_or l 7 0) is none empty room (rw (sym told) few)
    (same ∙ ap (λ n. headed p n (get_or l 5 0 ∷ get_or l 6 0 ∷ get_or l 7 0 ∷ [])) told) in
    let whole : l ≡ 83 ∷ get_or l 1 0 ∷ get_or l 2 0 ∷ get_or l 3 0 ∷ get_or l 4 0 ∷ get_or l 5 0 ∷ get_or l 6 0 ∷ get_or l 7 0 ∷ [] =
    eight l long ∙ ap (λ n. n ∷ get_or l 1 0 ∷ get_or l 2 0 ∷ get_or l 3 0 ∷ get_or l 4 0 ∷ get_or l 5 0 ∷ get_or l 6 0 ∷ get_or l 7 0 ∷ []) first in
    subst (λ bytes. Feeds captures p q bytes []) (sym whole) fed
