-- The other seats of a ring whose home has given no pass that is still out.
use Rattle.std.proofs.Common.{◌≡◌, ℕ, ◌≤◌, List, [], true≢false, sym, ap, ◌∙◌, subst, le_trans}
use Rattle.std.specs.Prelude as std
use mathlib.Core.Option.{Option, some}
use lib.ListN.{get_elem?}
use Rattle.zy_shuffle.specs.Holder.{Holder, nobody}
use Rattle.zy_shuffle.specs.ShuffleRule.{IsNote, IsRole, Knows, Lies, Standing}
use Rattle.zy_shuffle.specs.declared.ring.view.Role.TheVariants.{Spent}
use Rattle.zy_shuffle.specs.declared.ring.view.View.{View}
use Rattle.zy_table.specs.Member.{is_in}
use Rattle.zy_table.specs.declared.name.Name.{Name}

module _ {T M : Type 0} (mark : T → M) (label : T → Name) where
  -- a seat with an empty hand knows nothing of places
  pub idle_knows : (now after : Standing M) (j : ℕ) (u : View T) → now.head ≤ after.head → now.tail ≤ after.tail → IsNote after.words after.head after.tail after.places u.note
      → (u.role ≡ Spent) × (u.hand ≡ []) → Knows mark label now j u → Knows mark label after j u
  idle_knows now after j u hh tt' note e k = record {
    hand = λ q h. absurd (true≢false (sym h ∙ ap (is_in q) e.1));
    apart = k.apart;
    same = λ q h. absurd (true≢false (sym h ∙ ap (is_in q) e.1));
    head_seen = le_trans k.head_seen hh;
    tail_seen = le_trans k.tail_seen tt';
    note = note;
    role = subst (IsRole mark label after j u) (sym e.0) e.1;
  }

  -- the slot of a place without a holder is at home, with nothing in it
  pub shut_slot : (hs : List (Option (std.Option T))) (marks : ℕ → std.Option M) (z : Name) (q : ℕ) (x : Holder) → x ≡ nobody → Lies mark label hs marks z q x → get_elem? hs q ≡ some (some std.None)
  shut_slot hs marks z q x e l = subst (Lies mark label hs marks z q) e l
