-- The entries of a session, and what was said to its commands, with one entry more.
use Rattle.std.proofs.Common.{◌≡◌, ⊎_elim, ℕ, ◌<◌, ◌≤◌, ◌==◌, Bool, true, false, cond, List, [], ◌∷◌, ◌++◌, map, filter, All, refl, ap, ◌∙◌, append-nil, arith}
use Rattle.std.proofs.lemmas.List.{map-append}
use Rattle.std.proofs.lemmas.List.Elements.{filter-append, All-weaker}
use Rattle.std.proofs.lemmas.Bool.Decides.{eqb_tells}
use Rattle.zy_verdict.specs.Entries.{MadeCall, is_of_session, of_session, said_to}
use Rattle.zy_verdict.proofs.ListLemmas.{none_kept}

-- ---- numbers

pub same_number : (a b : ℕ) → a ≡ b → (a == b) ≡ true
same_number a b is = ⊎_elim (λ same. same.0) (λ other. absurd (other.1 is)) (eqb_tells a b)

pub other_number : (a b : ℕ) → (a ≡ b → ⊥) → (a == b) ≡ false
other_number a b differ = ⊎_elim (λ same. absurd (differ same.1)) (λ other. other.0) (eqb_tells a b)

-- ---- one entry more

kept_one : (b : Bool) (xs : List MadeCall) (e : MadeCall) → b ≡ true → xs ++ cond b (e ∷ []) [] ≡ xs ++ e ∷ []
kept_one true xs e is = refl
kept_one false xs e is = absurd (cc)

kept_none : (b : Bool) (xs : List MadeCall) (e : MadeCall) → b ≡ false → xs ++ cond b (e ∷ []) [] ≡ xs
kept_none true xs e is = absurd (cc)
kept_none false xs e is = append-nil xs

module _ (conn session : ℕ) (entries : List MadeCall) (e : MadeCall) where
  session_more : of_session conn session (entries ++ e ∷ []) ≡ of_session conn session entries ++ cond (is_of_session conn session e.named.name) (e ∷ []) []
  session_more = filter-append (λ (x : MadeCall). is_of_session conn session x.named.name) entries (e ∷ [])

  pub session_own : is_of_session conn session e.named.name ≡ true → of_session conn session (entries ++ e ∷ []) ≡ of_session conn session entries ++ e ∷ []
  session_own own = session_more ∙ kept_one (is_of_session conn session e.named.name) (of_session conn session entries) e own

  pub session_other : is_of_session conn session e.named.name ≡ false → of_session conn session (entries ++ e ∷ []) ≡ of_session conn session entries
  session_other other = session_more ∙ kept_none (is_of_session conn session e.named.name) (of_session conn session entries) e other

  -- the entries of a command, in the entries of its session
  abbrev of_command : ℕ → List MadeCall → List MadeCall
  of_command i xs = filter (λ (x : MadeCall). x.named.name.index == i) xs

  pub said_own : (i : ℕ) → is_of_session conn session e.named.name ≡ true → e.named.name.index ≡ i → said_to conn session i (entries ++ e ∷ []) ≡ said_to conn session i entries ++ e.said ∷ []
  said_own i own is =
      let xs = of_session conn session entries in
      ap (λ (l : List MadeCall). map (λ (x : MadeCall). x.said) (of_command i l)) (session_own own)
      ∙ ap (map (λ (x : MadeCall). x.said))
      (filter-append (λ (x : MadeCall). x.named.name.index == i) xs (e ∷ []) ∙ kept_one (e.named.name.index == i) (of_command i xs) e (same_number e.named.name.index i is))
      ∙ map-append (λ (x : MadeCall). x.said) (of_command i xs) (e ∷ [])

  pub said_else : (i : ℕ) → is_of_session conn session e.named.name ≡ true → (e.named.name.index ≡ i → ⊥) → said_to conn session i (entries ++ e ∷ []) ≡ said_to conn session i entries
  said_else i own differ =
      let xs = of_session conn session entries in
      ap (λ (l : List MadeCall). map (λ (x : MadeCall). x.said) (of_command i l)) (session_own own)
      ∙ ap (map (λ (x : MadeCall). x.said))
      (filter-append (λ (x : MadeCall). x.named.name.index == i) xs (e ∷ []) ∙ kept_none (e.named.name.index == i) (of_command i xs) e (other_number e.named.name.index i differ))

  pub said_elsewhere : (i : ℕ) → is_of_session conn session e.named.name ≡ false → said_to conn session i (entries ++ e ∷ []) ≡ said_to conn session i entries
  said_elsewhere i other = ap (λ (l : List MadeCall). map (λ (x : MadeCall). x.said) (of_command i l)) (session_other other)

-- nothing was said to a command after these
pub said_past : (conn session last i : ℕ) (entries : List MadeCall) → All (λ (e : MadeCall). e.named.name.index ≤ last) (of_session conn session entries) → last < i → said_to conn session i entries ≡ []
said_past conn session last i entries all past =
    ap (map (λ (x : MadeCall). x.said))
    (none_kept (λ (x : MadeCall). x.named.name.index == i) (of_session conn session entries)
    (All-weaker (λ (e : MadeCall). e.named.name.index ≤ last) (λ (e : MadeCall). (e.named.name.index == i) ≡ false)
    (λ e within. other_number e.named.name.index i (λ same. absurd (omega (arith, within, past, same)))) (of_session conn session entries) all))
