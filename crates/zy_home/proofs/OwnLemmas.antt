-- The connections of a core: they rise, and each is one of the core's.
use Rattle.std.specs.Prelude.{◌==◌, cond, option_map}
use Rattle.std.specs.List.{range_with_len, filter}
use Rattle.std.proofs.Common.{◌≡◌, ◌≢◌, ℕ, zero, suc, ◌+◌, ◌<◌, ◌≤◌, List, [], ◌∷◌, ◌++◌, Bool, true, false, Some, slice_get, refl, sym, ap, ◌∙◌, arith, append-nil, eqb-true, eq-eqb, ne_eqb}
use mathlib.Core.Logic.{dite}
use native.Mathlib.Decide.{dec_lt}
use Rattle.std.proofs.lemmas.List.Elements.{filter-append}
use Rattle.std.proofs.lemmas.Option.{slice_get-map}
use Rattle.zy_rx.specs.Flow.{home_of}
use Rattle.zy_home.specs.Link.{Link, conn_of}
use Rattle.zy_home.specs.Own.{own_conns, IsOwn, IsRising}
use Rattle.zy_home.specs.Home.{conns_in}

-- ---- numbers that pass a test, from one on

module _ (test : ℕ → Bool) where
  abbrev pub passing : ℕ → ℕ → List ℕ
  passing from len = filter test (range_with_len from len)

  pub record IsPassing (from len a : ℕ) : Type 0 where
    pub least : from ≤ a
    pub most : a < from + len
    pub passes : test a ≡ true

  -- a member of one number and of the later ones
  member : (from len : ℕ) → ((q a : ℕ) → slice_get (passing (from + 1) len) q ≡ Some a → IsPassing (from + 1) len a)
      → (b : Bool) → test from ≡ b → (p a : ℕ) → slice_get (cond b (from ∷ passing (from + 1) len) (passing (from + 1) len)) p ≡ Some a → IsPassing from (suc len) a
  member from len later false is p a at =
      let r = later p a at in record { least = (let l = r.least in omega arith); most = (let m = r.most in omega arith); passes = r.passes }
  member from len later true is zero a at = let same : from ≡ a = cc in record { least = omega arith; most = omega arith; passes = ap test (sym same) ∙ is }
  member from len later true is (suc p) a at =
      let r = later p a at in record { least = (let l = r.least in omega arith); most = (let m = r.most in omega arith); passes = r.passes }

  pub each_passes : (from len p a : ℕ) → slice_get (passing from len) p ≡ Some a → IsPassing from len a
  each_passes from zero p a e = absurd (cc)
  each_passes from (suc len) p a e = member from len (λ q a at. each_passes (from + 1) len q a at) (test from) refl p a e

  rises_on : (from len : ℕ) → IsRising (passing (from + 1) len) → (t : Bool) → IsRising (cond t (from ∷ passing (from + 1) len) (passing (from + 1) len))
  rises_on from len later false p q a b ea eb lt = later p q a b ea eb lt
  rises_on from len later true zero zero a b ea eb lt = absurd (omega arith)
  rises_on from len later true (suc p) zero a b ea eb lt = absurd (omega arith)
  rises_on from len later true zero (suc q) a b ea eb lt = let r = (each_passes (from + 1) len q b eb).least in let same : from ≡ a = cc in omega arith
  rises_on from len later true (suc p) (suc q) a b ea eb lt = later p q a b ea eb (omega arith)

  pub passing_rises : (from len : ℕ) → IsRising (passing from len)
  passing_rises from zero p q a b ea eb lt = absurd (cc)
  passing_rises from (suc len) p q a b ea eb lt = rises_on from len (passing_rises (from + 1) len) (test from) p q a b ea eb lt

-- ---- the connections of a home

pub own_rises : (core cores count : ℕ) → IsRising (own_conns core cores count)
own_rises core cores count = passing_rises (λ conn. home_of cores conn == core) 0 count

pub own_is : (core cores count p conn : ℕ) → slice_get (own_conns core cores count) p ≡ Some conn → IsOwn core cores count conn
own_is core cores count p conn e =
    let r = each_passes (λ conn. home_of cores conn == core) 0 count p conn e in
    ((let m = r.most in omega arith), eqb-true (home_of cores conn) core r.passes)

-- the number of the connection at a place
pub conn_at : (links : List Link) (p : ℕ) (l : Link) → slice_get links p ≡ Some l → slice_get (conns_in links) p ≡ Some (conn_of l)
conn_at links p l e = slice_get-map conn_of links p ∙ ap (option_map conn_of) e

-- no two places have one connection
pub rising_apart : (links : List Link) → IsRising (conns_in links) → (p q : ℕ) (l m : Link) → slice_get links p ≡ Some l → slice_get links q ≡ Some m → conn_of l ≡ conn_of m → p ≡ q
rising_apart links rises p q l m ep eq same = dite (dec_lt p q)
    (λ lt. absurd (let less = rises p q (conn_of l) (conn_of m) (conn_at links p l ep) (conn_at links q m eq) lt in omega arith))
    (λ no. dite (dec_lt q p)
    (λ lt. absurd (let less = rises q p (conn_of m) (conn_of l) (conn_at links q m eq) (conn_at links p l ep) lt in omega arith))
    (λ nor. omega arith))

-- ---- one further connection

range-last : (a n : ℕ) → range_with_len a (n + 1) ≡ range_with_len a n ++ (a + n) ∷ []
range-last a n = let more : n + 1 ≡ suc n = omega arith in ap (range_with_len a) more ∙ go a n
  where
    go : (a n : ℕ) → range_with_len a (suc n) ≡ range_with_len a n ++ (a + n) ∷ []
    go a zero = ap (λ k. k ∷ []) (omega arith)
    go a (suc n) = ap (λ l. a ∷ l) (go (a + 1) n ∙ ap (λ k. range_with_len (a + 1) n ++ k ∷ []) (omega arith))

pub own-more : (core cores count : ℕ) → own_conns core cores (count + 1) ≡ own_conns core cores count ++ filter (λ conn. home_of cores conn == core) (count ∷ [])
own-more core cores count =
    let last : 0 + count ≡ count = omega arith in
    ap (filter (λ conn. home_of cores conn == core)) (range-last 0 count ∙ ap (λ k. range_with_len 0 count ++ k ∷ []) last)
    ∙ filter-append (λ conn. home_of cores conn == core) (range_with_len 0 count) (count ∷ [])

pub own-here : (core cores count : ℕ) → home_of cores count ≡ core → own_conns core cores (count + 1) ≡ own_conns core cores count ++ count ∷ []
own-here core cores count home = own-more core cores count ∙ ap (λ b. own_conns core cores count ++ cond b (count ∷ []) []) (eq-eqb (home_of cores count) core home)

pub own-else : (core cores count : ℕ) → home_of cores count ≢ core → own_conns core cores (count + 1) ≡ own_conns core cores count
own-else core cores count away = own-more core cores count ∙ ap (λ b. own_conns core cores count ++ cond b (count ∷ []) []) (ne_eqb (home_of cores count) core away) ∙ append-nil (own_conns core cores count)
