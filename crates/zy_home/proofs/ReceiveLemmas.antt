-- What a home may have received, and what it did, after it took or dropped an item.
use Rattle.std.specs.Prelude.{◌==◌, ◌||◌, if◌then◌else◌}
use Rattle.std.proofs.Common.{◌≡◌, ◌≢◌, ℕ, List, [], ◌∷◌, ◌++◌, set, Bool, true, false, Option, Some, None, slice_get, refl, sym, ap, ◌∙◌, subst, ne_eqb}
use Rattle.zy_rx.specs.declared.rx.Rx.{Rx}
use Rattle.zy_rx.specs.declared.rx.Rx.TheVariants.{Segment, Close, End}
use Rattle.zy_rx.specs.Session.{Sessions, no_sessions, with_bytes, with_close, takes_in, received_by}
use Rattle.zy_rx.proofs.SessionLemmas.{sessions-push}
use Rattle.zy_home.specs.Link.{Link, LinkStands, IsFor, TakesIn, conn_of}
use Rattle.zy_home.specs.Own.{IsOwn, IsOfOthers, item_conn, is_end, own_conns}
use Rattle.zy_home.specs.Home.{Homed, StandsMore, conns_in}
use Rattle.zy_home.specs.Place.{ComesTo}
use Rattle.zy_home.proofs.OwnLemmas.{own_is, own_rises, conn_at, rising_apart}
use Rattle.zy_home.proofs.TurnLemmas.{each_set}

-- ---- what an item does to the sessions of a connection

-- the item is of one connection
abbrev turns_one : (Sessions → Sessions) → ℕ → ℕ → Sessions → Sessions
turns_one f conn c s = if s.ended then s else if conn == c then f s else s

one_ended : (f : Sessions → Sessions) → ((s : Sessions) → (f s).ended ≡ s.ended) → (conn c : ℕ) (s : Sessions) → (turns_one f conn c s).ended ≡ s.ended
one_ended f keeps conn c s = go s.ended (conn == c)
  where
    go : (a b : Bool) → (if a then s else if b then f s else s).ended ≡ s.ended
    go true b = refl
    go false true = keeps s
    go false false = refl

one_other : (f : Sessions → Sessions) (conn c : ℕ) (s : Sessions) → conn ≢ c → turns_one f conn c s ≡ s
one_other f conn c s ne = ap (λ b. if s.ended then s else if b then f s else s) (ne_eqb conn c ne) ∙ go s.ended
  where
    go : (a : Bool) → (if a then s else s) ≡ s
    go true = refl
    go false = refl

-- an item that is not the end leaves the ending as it is
takes_ended : (c conn : ℕ) (s : Sessions) (item : Rx) → item_conn item ≡ Some conn → (takes_in c s item).ended ≡ s.ended
takes_ended c conn s (Segment other bytes) e = one_ended (with_bytes bytes) (λ t. refl) other c s
takes_ended c conn s (Close other) e = one_ended with_close (λ t. refl) other c s
takes_ended c conn s End e = absurd (cc)

-- an item of another connection changes nothing
takes_other : (c conn : ℕ) (s : Sessions) (item : Rx) → item_conn item ≡ Some conn → c ≢ conn → takes_in c s item ≡ s
takes_other c conn s (Segment other bytes) e ne = one_other (with_bytes bytes) other c s (λ same. ne (cc))
takes_other c conn s (Close other) e ne = one_other with_close other c s (λ same. ne (cc))
takes_other c conn s End e ne = absurd (cc)

-- after the end nothing changes
takes_behind : (c : ℕ) (s : Sessions) (item : Rx) → s.ended ≡ true → takes_in c s item ≡ s
takes_behind c s (Segment conn bytes) e = ap (λ b. if b then s else if conn == c then with_bytes bytes s else s) e
takes_behind c s (Close conn) e = ap (λ b. if b then s else if conn == c then with_close s else s) e
takes_behind c s End e = λ i. record { closed = s.closed; current = s.current; ended = sym e i }

push : (c : ℕ) (items : List Rx) (item : Rx) → received_by c (items ++ item ∷ []) ≡ takes_in c (received_by c items) item
push c items item = sessions-push c no_sessions items item

-- ---- items and connections

-- an item for a connection is of it
pub for_is : (c : ℕ) (item : Rx) → IsFor c item → item_conn item ≡ Some c
for_is c (Segment conn bytes) is = ap Some is
for_is c (Close conn) is = ap Some is
for_is c End is = absurd is

pub is_for : (c : ℕ) (item : Rx) → item_conn item ≡ Some c → IsFor c item
is_for c (Segment conn bytes) e = cc
is_for c (Close conn) e = cc
is_for c End e = absurd (cc)

-- an item that belongs to no connection is the end
is_the_end : (item : Rx) → item_conn item ≡ None → item ≡ End
is_the_end (Segment conn bytes) e = absurd (cc)
is_the_end (Close conn) e = absurd (cc)
is_the_end End e = refl

pub no_end : (conn : ℕ) (item : Rx) → item_conn item ≡ Some conn → is_end item ≡ false
no_end conn (Segment c bytes) e = refl
no_end conn (Close c) e = refl
no_end conn End e = absurd (cc)

-- an item of one of the home's connections is not of others
not_others : (core cores count conn : ℕ) (item : Rx) → IsOfOthers core cores count item → item_conn item ≡ Some conn → IsOwn core cores count conn → ⊥
not_others core cores count conn (Segment c bytes) others e own = others (subst (IsOwn core cores count) (let is : conn ≡ c = cc in is) own)
not_others core cores count conn (Close c) others e own = others (subst (IsOwn core cores count) (let is : conn ≡ c = cc in is) own)
not_others core cores count conn End others e own = absurd (cc)

-- the connections of these homes are their core's
module _ (h : Homed) (own : conns_in h.links ≡ own_conns h.core h.cores h.count) where
  -- the connection of a place is one of them
  link_own : (p : ℕ) (l : Link) → slice_get h.links p ≡ Some l → IsOwn h.core h.cores h.count (conn_of l)
  link_own p l e = own_is h.core h.cores h.count p (conn_of l) (ap (λ ns. slice_get ns p) (sym own) ∙ conn_at h.links p l e)

  apart : (p q : ℕ) (l m : Link) → slice_get h.links p ≡ Some l → slice_get h.links q ≡ Some m → conn_of l ≡ conn_of m → p ≡ q
  apart p q l m = rising_apart h.links (λ p q a b ea eb. own_rises h.core h.cores h.count p q a b (ap (λ ns. slice_get ns p) (sym own) ∙ ea) (ap (λ ns. slice_get ns q) (sym own) ∙ eb)) p q l m

  -- an item comes to one place
  pub comes_once : (p q : ℕ) (item : Rx) → ComesTo h p item → ComesTo h q item → q ≡ p
  comes_once p q item c d = apart q p d.link c.link d.there c.there (let one = for_is (conn_of d.link) item d.own in let two = for_is (conn_of c.link) item c.own in cc)

  -- an item that comes to a place is not of others
  pub comes_not_others : (p : ℕ) (item : Rx) → ComesTo h p item → IsOfOthers h.core h.cores h.count item → ⊥
  comes_not_others p item c others = not_others h.core h.cores h.count (conn_of c.link) item others (for_is (conn_of c.link) item c.own) (link_own p c.link c.there)

-- ---- what the home may have received

-- the item is of no connection of the home
more_none : (h : Homed) (conn : ℕ) (item : Rx) → item_conn item ≡ Some conn → ((p : ℕ) (l : Link) → slice_get h.links p ≡ Some l → conn_of l ≢ conn) → StandsMore h item h
more_none h conn item is none items s = record {
  ended = λ c. ap (λ (z : Sessions). z.ended) (push c items item) ∙ takes_ended c conn (received_by c items) item is ∙ s.ended c;
  links = λ p l e. subst (LinkStands l) (sym (push (conn_of l) items item ∙ takes_other (conn_of l) conn (received_by (conn_of l) items) item is (none p l e))) (s.links p l e);
}

-- the item comes after the end
more_behind : (h : Homed) (item : Rx) → h.ended ≡ true → StandsMore h item h
more_behind h item e items s =
    let same : (c : ℕ) → received_by c (items ++ item ∷ []) ≡ received_by c items = λ c. push c items item ∙ takes_behind c (received_by c items) item (s.ended c ∙ e) in record {
      ended = λ c. ap (λ (z : Sessions). z.ended) (same c) ∙ s.ended c;
      links = λ p l e. subst (LinkStands l) (sym (same (conn_of l))) (s.links p l e);
    }

-- the end comes
more_end : (h : Homed) (item : Rx) → item ≡ End → StandsMore h item (record h { ended = true })
more_end h item is items s =
    let same : (c : ℕ) → received_by c (items ++ item ∷ []) ≡ record (received_by c items) { ended = true } = λ c. push c items item ∙ ap (takes_in c (received_by c items)) is in record {
      ended = λ c. ap (λ (z : Sessions). z.ended) (same c);
      links = λ p l e. let old = s.links p l e in subst (LinkStands l) (sym (same (conn_of l))) (record { framer = old.framer; frames = old.frames; ends = old.ends; cut = old.cut });
    }

-- the item comes to the connection of a place
pub more_at : (h : Homed) → conns_in h.links ≡ own_conns h.core h.cores h.count → (p : ℕ) (l m : Link) → slice_get h.links p ≡ Some l → conn_of m ≡ conn_of l → h.ended ≡ false → (item : Rx) → IsFor (conn_of l) item → TakesIn item l m → StandsMore h item (record h { links = set h.links p m })
more_at h own p l m there conn live item is_own takes items s =
    let is = for_is (conn_of l) item is_own in record {
      ended = λ c. ap (λ (z : Sessions). z.ended) (push c items item) ∙ takes_ended c (conn_of l) (received_by c items) item is ∙ s.ended c;
      links = each_set (λ q n. LinkStands n (received_by (conn_of n) (items ++ item ∷ []))) h.links p m
          (subst (λ c. LinkStands m (received_by c (items ++ item ∷ []))) (sym conn) (subst (LinkStands m) (sym (push (conn_of l) items item)) (takes (received_by (conn_of l) items) (s.ended (conn_of l) ∙ live) (s.links p l there))))
          (λ q n ne old. subst (LinkStands n) (sym (push (conn_of n) items item ∙ takes_other (conn_of n) (conn_of l) (received_by (conn_of n) items) item is (λ same. ne (apart h own q p n l old there same)))) (s.links q n old));
    }

-- the item comes to no place: it is dropped, or it is the end
pub more_past : (h : Homed) (item : Rx) → ((p : ℕ) → ComesTo h p item → ⊥) → StandsMore h item (record h { ended = h.ended || is_end item })
more_past h item none = by_ended h.ended refl
  where
    by_conn : (c : Option ℕ) → item_conn item ≡ c → h.ended ≡ false → StandsMore h item (record h { ended = is_end item })
    by_conn None e live = let is = is_the_end item e in subst (λ b. StandsMore h item (record h { ended = b })) (sym (ap is_end is)) (more_end h item is)
    by_conn (Some conn) e live =
        let no : is_end item ≡ false = no_end conn item e in
        subst (λ b. StandsMore h item (record h { ended = b })) (live ∙ sym no)
        (more_none h conn item e (λ p l there same. none p (record { live = live; link = l; there = there; own = is_for (conn_of l) item (e ∙ ap Some (sym same)) })))

    by_ended : (b : Bool) → h.ended ≡ b → StandsMore h item (record h { ended = h.ended || is_end item })
    by_ended true e = subst (λ b. StandsMore h item (record h { ended = b })) (e ∙ sym (ap (λ b. b || is_end item) e)) (more_behind h item e)
    by_ended false e = subst (λ b. StandsMore h item (record h { ended = b })) (sym (ap (λ b. b || is_end item) e)) (by_conn (item_conn item) refl e)
