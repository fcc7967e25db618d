-- How the items of an answer are read.
use Rattle.std.proofs.Common.{◌≡◌, ℕ, ◌+◌, ◌≤◌, Bool, List, [], ◌∷◌, ◌++◌, length, map, take, drop, ap, sym, ◌∙◌, subst, append_assoc, arith}
use Rattle.std.specs.Prelude.{Some}
use Rattle.std.specs.List.{concat, AllByRecursion}
use Rattle.std.proofs.lemmas.List.{append-nil}
use Rattle.mc_reply.specs.Text.{line, item_line}
use Rattle.mc_answers.specs.Cut.{IsWord}
use Rattle.mc_answered.specs.Reading.{Heading, heading_of}
use Rattle.mc_answered.proofs.FoundLemmas.{found_two}
use Rattle.mc_answered.proofs.HeadingLemmas.{heading_of-some, heading_line}
use Rattle.mc_shown.specs.declared.listed.Listed.{Listed}
use Rattle.mc_shown.specs.Listing.{text_of, IsListed, AreRead, IsNext, IsValueOf}

-- ---- one more item

joined_push : (asked : Bool) (items : List Listed) (item : Listed) → concat (map (text_of asked) (items ++ item ∷ [])) ≡ concat (map (text_of asked) items) ++ text_of asked item
joined_push asked [] item = append-nil (text_of asked item)
joined_push asked (i ∷ items) item = ap (λ (t : List ℕ). text_of asked i ++ t) (joined_push asked items item) ∙ sym (append_assoc (text_of asked i) (concat (map (text_of asked) items)) (text_of asked item))

each_push : (items : List Listed) (item : Listed) → AllByRecursion IsListed items → IsListed item → AllByRecursion IsListed (items ++ item ∷ [])
each_push [] item each one = (one, tt)
each_push (i ∷ items) item each one = (each.0, each_push items item each.1 one)

pub read_more : (asked : Bool) (items : List Listed) (text rest : List ℕ) (at n : ℕ) (item : Listed) → AreRead asked items text at → rest ≡ drop at text → IsNext asked rest item n
    → AreRead asked (items ++ item ∷ []) text (at + n)
read_more asked items text rest at n item so after next =
    let both = found_two text at n (concat (map (text_of asked) items)) (text_of asked item) rest so.low so.is after next.low next.is in
    record { each = each_push items item so.each next.of; is = both.is ∙ sym (joined_push asked items item); low = both.low }

-- ---- an item

pub next_is : (asked : Bool) (bytes rest : List ℕ) (n : ℕ) (h : Heading) (item : Listed) → n ≤ length bytes → heading_of asked (take n bytes) ≡ Some h → rest ≡ drop n bytes
    → item.key.now ≡ h.key → item.flags ≡ h.flags → item.unique ≡ h.unique → IsValueOf h.count rest item.value.now → (m : ℕ) → m ≡ n + length item.value.now + 2 → IsNext asked bytes item m
next_is asked bytes rest n h item low headed after key flags unique of m long =
    let heading = heading_of-some asked (take n bytes) h headed in
    let value = item.value.now in
    let first : take n bytes ≡ item_line asked item.key.now item.flags item.unique value =
    heading_line asked (take n bytes) h value heading of.long
    ∙ ap (λ (k : List ℕ). item_line asked k h.flags h.unique value) (sym key)
    ∙ ap (λ (f : ℕ). item_line asked item.key.now f h.unique value) (sym flags)
    ∙ ap (λ (u : ℕ). item_line asked item.key.now item.flags u value) (sym unique) in
    let both = found_two bytes n (h.count + 2) (item_line asked item.key.now item.flags item.unique value) (line value) rest low first after of.low of.is in
    let same : n + (h.count + 2) ≡ m = let e = of.long in omega (arith, e, long) in
    record {
      of = record {
        word = subst IsWord (sym key) heading.named;
        few = rw flags heading.few;
        small = rw unique heading.small;
        fits = let e = of.long in let f = of.few in omega (arith, e, f);
      };
      low = subst (λ (k : ℕ). k ≤ length bytes) same both.low;
      is = subst (λ (k : ℕ). take k bytes ≡ item_line asked item.key.now item.flags item.unique value ++ line value) same both.is;
    }
