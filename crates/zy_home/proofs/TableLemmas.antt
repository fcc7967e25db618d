-- The table of a core's connections, with one more connection, and the places that it has.
use Rattle.std.proofs.Common.{◌≡◌, ◌≢◌, ℕ, zero, suc, ◌+◌, List, [], ◌∷◌, ◌++◌, length, false, Option, None, Some, slice_get, ◌≤◌, refl, sym, ap, ◌∙◌, subst, ⊎_elim, inl, inr}
use Rattle.std.specs.Prelude.{◌⊎◌, IfSome, IfNone}
use Rattle.std.proofs.lemmas.Option.{slice_get_past}
use Rattle.zy_rx.specs.declared.rx.Rx.{Rx}
use Rattle.zy_rx.specs.Flow.{home_of}
use Rattle.zy_home.specs.Link.{Link, conn_of}
use Rattle.zy_home.specs.Own.{IsTable, own_conns, item_conn}
use Rattle.zy_home.specs.Home.{conns_in}
use Rattle.zy_home.specs.declared.links.Links.{Links}
use Rattle.zy_home.specs.Links.{AreOfCore, ComesIn}
use Rattle.zy_home.proofs.OwnLemmas.{own-here, own-else, conn_at}
use Rattle.zy_home.proofs.ReceiveLemmas.{for_is, is_for}

-- ---- a list with one further member

module _ {A : Type 0} where
  get_before : (xs : List A) (x y : A) (i : ℕ) → slice_get xs i ≡ Some y → slice_get (xs ++ x ∷ []) i ≡ Some y
  get_before [] x y i e = absurd (cc)
  get_before (z ∷ xs) x y zero e = e
  get_before (z ∷ xs) x y (suc i) e = get_before xs x y i e

  get_last : (xs : List A) (x : A) → slice_get (xs ++ x ∷ []) (length xs) ≡ Some x
  get_last [] x = refl
  get_last (z ∷ xs) x = get_last xs x

  -- a member is one of the earlier ones, or the last one
  get_either : (xs : List A) (x y : A) (i : ℕ) → slice_get (xs ++ x ∷ []) i ≡ Some y → (slice_get xs i ≡ Some y) ⊎ ((i ≡ length xs) × (x ≡ y))
  get_either [] x y zero e = inr (refl, (cc))
  get_either [] x y (suc i) e = absurd (cc)
  get_either (z ∷ xs) x y zero e = inl e
  get_either (z ∷ xs) x y (suc i) e = ⊎_elim
      (λ (earlier : slice_get xs i ≡ Some y). inl earlier)
      (λ (last : (i ≡ length xs) × (x ≡ y)). inr (ap suc last.0, last.1))
      (get_either xs x y i e)

-- ---- one further connection

-- the next one has the next place
with_next : (conns : List ℕ) (table : List (Option ℕ)) → IsTable conns table → IsTable (conns ++ length table ∷ []) (table ++ Some (length conns) ∷ [])
with_next conns table t = record {
  there = λ place conn e. ⊎_elim
      (λ (earlier : slice_get conns place ≡ Some conn). get_before table (Some (length conns)) (Some place) conn (t.there place conn earlier))
      (λ (last : (place ≡ length conns) × (length table ≡ conn)). ap (slice_get (table ++ Some (length conns) ∷ [])) (sym last.1) ∙ get_last table (Some (length conns)) ∙ ap (λ (n : ℕ). Some (Some n)) (sym last.0))
      (get_either conns (length table) conn place e);
  back = λ place conn e. ⊎_elim
      (λ (earlier : slice_get table conn ≡ Some (Some place)). get_before conns (length table) conn place (t.back place conn earlier))
      (λ (last : (conn ≡ length table) × (Some (length conns) ≡ Some place)). let same : length conns ≡ place = let is = last.1 in cc in ap (slice_get (conns ++ length table ∷ [])) (sym same) ∙ get_last conns (length table) ∙ ap Some (sym last.0))
      (get_either table (Some (length conns)) (Some place) conn e);
}

-- the next one is of another core
with_none : (conns : List ℕ) (table : List (Option ℕ)) → IsTable conns table → IsTable conns (table ++ None ∷ [])
with_none conns table t = record {
  there = λ place conn e. get_before table None (Some place) conn (t.there place conn e);
  back = λ place conn e. ⊎_elim
      (λ (earlier : slice_get table conn ≡ Some (Some place)). t.back place conn earlier)
      (λ (last : (conn ≡ length table) × (None ≡ Some place)). let is = last.1 in absurd (cc))
      (get_either table None (Some place) conn e);
}

pub table_here : (core cores conn next : ℕ) (table : List (Option ℕ)) → IsTable (own_conns core cores conn) table → length table ≡ conn → next ≡ length (own_conns core cores conn) → home_of cores conn ≡ core
    → IsTable (own_conns core cores (conn + 1)) (table ++ Some next ∷ [])
table_here core cores conn next table t size places home =
    subst (λ (l : List ℕ). IsTable l (table ++ Some next ∷ [])) (ap (λ (n : ℕ). own_conns core cores conn ++ n ∷ []) size ∙ sym (own-here core cores conn home))
    (subst (λ (n : ℕ). IsTable (own_conns core cores conn ++ length table ∷ []) (table ++ Some n ∷ [])) (sym places) (with_next (own_conns core cores conn) table t))

pub table_else : (core cores conn : ℕ) (table : List (Option ℕ)) → IsTable (own_conns core cores conn) table → home_of cores conn ≢ core
    → IsTable (own_conns core cores (conn + 1)) (table ++ None ∷ [])
table_else core cores conn table t away =
    subst (λ (l : List ℕ). IsTable l (table ++ None ∷ [])) (sym (own-else core cores conn away)) (with_none (own_conns core cores conn) table t)

-- ---- the place of an item

-- the connection that has a number
link_of : (links : List Link) (place conn : ℕ) → slice_get (conns_in links) place ≡ Some conn → (l : Link) × (slice_get links place ≡ Some l) × (conn_of l ≡ conn)
link_of [] place conn e = absurd (cc)
link_of (l ∷ links) zero conn e = (l, refl, (cc))
link_of (l ∷ links) (suc place) conn e = link_of links place conn e

-- a connection past the end of the table is at no place
pub past_table : (conns : List ℕ) (table : List (Option ℕ)) → IsTable conns table → (conn : ℕ) → length table ≤ conn → (place : ℕ) → slice_get conns place ≡ Some conn → ⊥
past_table conns table t conn past place e =
    let there : slice_get table conn ≡ Some (Some place) = t.there place conn e in
    let none : slice_get table conn ≡ None = slice_get_past table conn past in
    absurd (cc)

-- the place that was looked up, or none, for an item of a connection
module _ (L : Links) (own : AreOfCore L) (conn : ℕ) (item : Rx) (is : item_conn item ≡ Some conn) where
  pub place_found : L.ended ≡ false → (result : Option ℕ) → IfSome result (λ place. slice_get (own_conns L.places.core L.places.cores L.places.count) place ≡ Some conn) → IfSome result (λ place. ComesIn L place item)
  place_found live (Some place) at =
      let found = link_of L.items.items place conn (ap (λ (l : List ℕ). slice_get l place) own ∙ at) in record {
        live = live;
        link = found.0;
        there = found.1;
        own = is_for (conn_of found.0) item (is ∙ ap Some (sym found.2));
      }
  place_found live None at = tt

  pub place_missed : (result : Option ℕ) → IfNone result ((place : ℕ) → slice_get (own_conns L.places.core L.places.cores L.places.count) place ≢ Some conn) → IfNone result ((place : ℕ) → ComesIn L place item → ⊥)
  place_missed (Some place) none = tt
  place_missed None none = λ place comes.
      none place (ap (λ (l : List ℕ). slice_get l place) (sym own) ∙ conn_at L.items.items place comes.link comes.there ∙ sym (for_is (conn_of comes.link) item comes.own) ∙ is)
