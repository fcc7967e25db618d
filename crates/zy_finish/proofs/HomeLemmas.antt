-- If the homes of all cores are settled, the block of each connection is in its place, and idle.
use Rattle.std.specs.Prelude.{◌&&◌, not, map, option_map}
use Rattle.std.specs.List.{AllByRecursion}
use Rattle.std.proofs.Common.{◌≡◌, ℕ, zero, suc, ◌<◌, List, [], ◌∷◌, length, Bool, true, false, Option, Some, None, slice_get, refl, sym, ap, ◌∙◌, arith}
use Rattle.std.proofs.lemmas.Option.{slice_get-map, slice_get_within}
use Rattle.std.proofs.lemmas.List.{length-map}
use Rattle.atomic_table.specs.Seated.{TableId}
use Rattle.zy_conn.proofs.LabelLemmas.{same_store, same_cores}
use Rattle.zy_rx.specs.Flow.{home_of}
use Rattle.zy_conn.specs.Work.{Mark}
use Rattle.zy_conn.specs.Block.{Blocked}
use Rattle.zy_home.specs.Link.{Link, conn_of}
use Rattle.zy_home.specs.Idle.{IsIdleWith, due_mark, mark_in}
use Rattle.zy_home.specs.Own.{own_conns}
use Rattle.zy_home.specs.End.{ended_of, blocks_in}
use Rattle.zy_home.specs.Home.{Homed, IsSoundHome, all_here, is_settled, conns_in}
use Rattle.zy_home.proofs.JoinLemmas.{some_there}
use Rattle.zy_home.proofs.MakeLemmas.{all_at}
use Rattle.zy_finish.specs.declared.rest.Rest.{Rest}
use Rattle.zy_finish.specs.Over.{IsHomeOver, AreOver}
use Rattle.zy_finish.specs.Rest.{rest_of_home, place_of, IsThere}
use Rattle.zy_finish.proofs.PlaceLemmas.{own_at}

-- ---- a settled home

both : (a b : Bool) → a && b ≡ true → (a ≡ true) × (b ≡ true)
both true b is = (refl, is)
both false b is = absurd (cc)

not_true : (b : Bool) → not b ≡ true → b ≡ false
not_true true is = absurd (cc)
not_true false is = refl

pub settled_calm : (h : Homed) → is_settled h ≡ true → h.refused ≡ false
settled_calm h is = not_true h.refused (both (not h.refused) (all_here h.blocks) (both h.ended (not h.refused && all_here h.blocks) is).1).0

pub settled_here : (h : Homed) → is_settled h ≡ true → all_here h.blocks ≡ true
settled_here h is = (both (not h.refused) (all_here h.blocks) (both h.ended (not h.refused && all_here h.blocks) is).1).1

-- where all blocks are here, each is at its place
record BlockAt (slots : List (Option Blocked)) (p : ℕ) : Type 0 where
  pub block : Blocked
  pub slot : slice_get slots p ≡ Some (Some block)
  pub at : slice_get (blocks_in slots) p ≡ Some block

block_at : (slots : List (Option Blocked)) (p : ℕ) → all_here slots ≡ true → p < length slots → BlockAt slots p
block_at [] p here within = absurd (omega arith)
block_at (None ∷ slots) p here within = absurd (cc)
block_at (Some b ∷ slots) zero here within = record { block = b; slot = refl; at = refl }
block_at (Some b ∷ slots) (suc p) here within =
    let r = block_at slots p here (omega arith) in record { block = r.block; slot = r.slot; at = r.at }

-- a link that has a number
record LinkIs (o : Option Link) (conn : ℕ) : Type 0 where
  pub link : Link
  pub is : o ≡ Some link
  pub conn_is : conn_of link ≡ conn

link_is : (o : Option Link) (conn : ℕ) → option_map conn_of o ≡ Some conn → LinkIs o conn
link_is None conn e = absurd (cc)
link_is (Some l) conn e = record { link = l; is = refl; conn_is = cc }

link_at : (links : List Link) (own : List ℕ) (place conn : ℕ) → conns_in links ≡ own → slice_get own place ≡ Some conn → LinkIs (slice_get links place) conn
link_at links own place conn are at = link_is (slice_get links place) conn (sym (slice_get-map conn_of links place) ∙ ap (λ (c : List ℕ). slice_get c place) are ∙ at)

-- ---- a connection

-- the block and the link of a connection, at its place
pub record IsHeld (store : TableId) (count : ℕ) (homes : List Homed) (conn : ℕ) : Type 0 where
  pub home : Homed
  pub home_there : slice_get homes (home_of (length homes) conn) ≡ Some home
  pub over : IsHomeOver store (length homes) count (home_of (length homes) conn) home
  pub block : Blocked
  pub link : Link
  pub block_there : slice_get (blocks_in home.blocks) (place_of (length homes) conn) ≡ Some block
  pub link_there : slice_get home.links (place_of (length homes) conn) ≡ Some link
  pub conn_is : conn_of link ≡ conn
  pub mark : mark_in block ≡ due_mark link
  pub idle : IsIdleWith block.work link
  pub table_is : block.work.table ≡ store
  pub cores_is : block.cores ≡ length homes

module _ (store : TableId) (count : ℕ) (homes : List Homed) (over : AreOver store count homes) (keeps : AllByRecursion IsSoundHome homes) (conn : ℕ) (within : conn < count) where
  held_at : (h : Homed) → slice_get homes (home_of (length homes) conn) ≡ Some h → IsHeld store count homes conn
  held_at h there =
      let core = home_of (length homes) conn in
      let place = place_of (length homes) conn in
      let o = over.each core h there in
      let k = all_at IsSoundHome homes core h keeps there in
      let own : conns_in h.links ≡ own_conns core (length homes) count = k.conns ∙ (λ i. own_conns (o.core_is i) (o.cores_is i) (o.count_is i)) in
      let l = link_at h.links (own_conns core (length homes) count) place conn own (own_at (length homes) count conn within) in
      let size = slice_get_within h.links place l.link l.is in
      let long = k.long in
      let b = block_at h.blocks place (settled_here h o.settled) (omega arith) in
      let at = k.each (settled_calm h o.settled) place (Some b.block) l.link b.slot l.is in record {
        home = h;
        home_there = there;
        over = o;
        block = b.block;
        link = l.link;
        block_there = b.at;
        link_there = l.is;
        conn_is = l.conn_is;
        mark = at.0;
        idle = at.1 refl;
        table_is = same_store b.block.work.table store b.block.cores (length homes) ((k.here place b.block b.slot).1 ∙ o.label);
        cores_is = same_cores b.block.work.table store b.block.cores (length homes) ((k.here place b.block b.slot).1 ∙ o.label);
      }

  -- a connection below the count is held by its home
  pub is_held : IsHeld store count homes conn
  is_held = let some = over.some in let t = some_there homes (home_of (length homes) conn) (omega arith) in held_at t.0 t.1

  -- and so what is left of it is there
  pub is_there : (rests : List Rest) → rests ≡ map rest_of_home homes → IsThere store rests conn
  is_there rests are =
      let h = is_held in
      let size : length rests ≡ length homes = ap (λ (l : List Rest). length l) are ∙ length-map homes rest_of_home in record {
        rest = rest_of_home h.home;
        home = (λ i. slice_get (are i) (home_of (size i) conn)) ∙ slice_get-map rest_of_home homes (home_of (length homes) conn) ∙ ap (option_map rest_of_home) h.home_there;
        block = h.block;
        end = ended_of h.link;
        block_there = ap (λ n. slice_get (blocks_in h.home.blocks) (place_of n conn)) size ∙ h.block_there;
        end_there = ap (λ n. slice_get (map ended_of h.home.links) (place_of n conn)) size ∙ slice_get-map ended_of h.home.links (place_of (length homes) conn) ∙ ap (option_map ended_of) h.link_there;
        conn_is = ap (λ (m : Mark). m.0) h.mark ∙ h.conn_is;
        table_is = h.table_is;
        cores_is = h.cores_is ∙ sym size;
      }
