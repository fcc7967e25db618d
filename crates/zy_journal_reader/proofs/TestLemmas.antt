-- Tests, lists, numbers and texts that the lemmas on fields use.
use Rattle.std.proofs.Common.{◌≡◌, ◌⊎◌, ℕ, ◌+◌, ◌<◌, ◌≤◌, ◌^◌, Bool, true, false, List, [], ◌∷◌, ◌++◌, length, get_or, refl, sym, ◌∙◌, ap, arith, append_assoc}
use Rattle.std.specs.Prelude.{◌==◌, ◌&&◌, ◌||◌, nat_lt, nat_le, if◌then◌else◌, Option, None, Some, flat_map}
use Rattle.std.specs.List.{AllByRecursion}
use Rattle.std.specs.Int.{to_be_bytes, from_be_bytes, w32, w64}
use Rattle.std.proofs.lemmas.List.{append-nil}
use Rattle.std.proofs.lemmas.Bool.Decides.{nat_tests}
use Rattle.std.proofs.lemmas.Nat.{be_bytes_4, be_bytes_8}
use Rattle.std.proofs.lemmas.Grind.{flat_map-append}
use Rattle.mc_calls.specs.declared.entry.Entry.{Entry}
use Rattle.mc_calls.specs.declared.hold.Hold.{Hold}
use Rattle.mc_calls.specs.Order.{IsOrdered, IsBefore}
use Rattle.zy_journal.specs.Journal.{magic, entry_text, hold_text, IsEntry, IsHold, AreByConnection}
use Rattle.zy_journal_reader.specs.declared.past.Past.{Past}
use Rattle.mc_calls.specs.Bounds.{FitsEntry}
use Rattle.zy_read.specs.Bytes.{AreBytes}
use Rattle.zy_read.proofs.ByteLemmas.{byte_at}
use Rattle.zy_journal_reader.specs.Last.{last_after}
use Rattle.zy_journal_reader.proofs.SoFar.{front, ComesAfter, stamp_of, shard_of, conn_of, Kept}

-- ---- tests

pub between_true : (n low high : ℕ) → (nat_le low n && nat_le n high) ≡ true → (low ≤ n) × (n ≤ high)
between_true n low high is = (grind (arith, nat_tests), grind (arith, nat_tests))

pub below_true : (n limit : ℕ) → nat_lt n limit ≡ true → n < limit
below_true n limit is = grind (arith, nat_tests)

pub most_true : (n limit : ℕ) → nat_le n limit ≡ true → n ≤ limit
most_true n limit is = grind (arith, nat_tests)

pub stamp_true : (n past : ℕ) → (nat_le 1 n && nat_lt n (2 ^ 60) && nat_le past n) ≡ true → (0 < n) × (n < 2 ^ 60) × (past ≤ n)
stamp_true n past is = (grind (arith, nat_tests), grind (arith, nat_tests), grind (arith, nat_tests))

pub shard_true : (n past stamp past_stamp : ℕ) → (nat_lt n 256 && (nat_lt past_stamp stamp || nat_lt past n)) ≡ true → past_stamp ≤ stamp → (n < 256) × ((past_stamp < stamp) ⊎ ((past_stamp ≡ stamp) × (past < n)))
shard_true n past stamp past_stamp is below = (grind (arith, nat_tests), grind (arith, nat_tests))

pub conn_true : (n past : ℕ) → (nat_le past n && nat_lt n 4096) ≡ true → (past ≤ n) × (n < 4096)
conn_true n past is = (grind (arith, nat_tests), grind (arith, nat_tests))

pub tag_true : (n count : ℕ) → (n == 69 || n == 72 || (n == 74 && count == 0)) ≡ true → (n == 69) ≡ false → (n == 72) ≡ false → (n ≡ 74) × (count ≡ 0)
tag_true n count is no_end no_hold = (grind (arith, nat_tests), grind (arith, nat_tests))

pub positive : (n : ℕ) → (n == 0) ≡ false → 0 < n
positive n is = grind (arith, nat_tests)

pub not_last : (at : ℕ) → at < 8 → (at == 7) ≡ false → at + 1 < 8
not_last at within more = grind (arith, nat_tests)

-- a fact of either way that a test goes
pub chosen : {S : Type 0} (P : S → Type 0) (test : Bool) (x y : S) → (test ≡ true → P x) → (test ≡ false → P y) → P (if test then x else y)
chosen P test x y first second =
    elim test as (λ (t : Bool). (t ≡ true → P x) → (t ≡ false → P y) → P (if t then x else y)) [ true ↦ λ one two. one refl | false ↦ λ one two. two refl ] first second

-- ---- lists

pub no_items : {X : Type 0} (xs : List X) → length xs ≡ 0 → xs ≡ []
no_items [] is = refl
no_items (x ∷ xs) is = absurd (omega (arith, is))

pub all_on : {X : Type 0} (P : X → Type 0) (xs : List X) (x : X) → AllByRecursion P xs → P x → AllByRecursion P (xs ++ x ∷ [])
all_on P [] x all one = (one, tt)
all_on P (y ∷ xs) x all one = (all.0, all_on P xs x all.1 one)

pub ordered_on : (last : Option Entry) (es : List Entry) (x e : Entry) → IsOrdered last (es ++ x ∷ []) → IsBefore x e → IsOrdered last ((es ++ x ∷ []) ++ e ∷ [])
ordered_on last [] x e ordered comes = (ordered.0, (comes, tt))
ordered_on last (y ∷ es) x e ordered comes = (ordered.0, ordered_on (Some y) es x e ordered.1 comes)

pub rising_on : (last : ℕ) (hs : List Hold) (x h : Hold) → AreByConnection last (hs ++ x ∷ []) → x.conn ≤ h.conn → AreByConnection last ((hs ++ x ∷ []) ++ h ∷ [])
rising_on last [] x h rising comes = (rising.0, (comes, tt))
rising_on last (y ∷ hs) x h rising comes = (rising.0, rising_on y.conn hs x h rising.1 comes)

-- what is added is the last one
pub last_on : {X : Type 0} (before : Option X) (xs : List X) (x : X) → last_after before (xs ++ x ∷ []) ≡ Some x
last_on before [] x = refl
last_on before (y ∷ xs) x = last_on (Some y) xs x

pub kept_entry : (es : List Entry) (hs : List Hold) (past : Past) (e : Entry) → Kept es hs past → IsEntry e → FitsEntry e → ComesAfter past e → Kept (es ++ e ∷ []) hs (record past { stamp = e.stamp; shard = e.shard })
kept_entry es hs past e kept is fits comes = record {
  ordered = kept.next e comes;
  entries = all_on IsEntry es e kept.entries is;
  fits = all_on FitsEntry es e kept.fits fits;
  rising = kept.rising;
  holds = kept.holds;
  stamp_is = ap (λ (o : Option Entry). stamp_of o) (sym (last_on None es e));
  shard_is = ap (λ (o : Option Entry). shard_of o) (sym (last_on None es e));
  conn_is = kept.conn_is;
  next = λ x after. ordered_on None es e x (kept.next e comes) after;
  next_hold = kept.next_hold;
}

pub kept_hold : (es : List Entry) (hs : List Hold) (past : Past) (h : Hold) → Kept es hs past → IsHold h → past.conn ≤ h.conn → Kept es (hs ++ h ∷ []) (record past { conn = h.conn })
kept_hold es hs past h kept is comes = record {
  ordered = kept.ordered;
  entries = kept.entries;
  fits = kept.fits;
  rising = kept.next_hold h comes;
  holds = all_on IsHold hs h kept.holds is;
  stamp_is = kept.stamp_is;
  shard_is = kept.shard_is;
  conn_is = ap (λ (o : Option Hold). conn_of o) (sym (last_on None hs h));
  next = kept.next;
  next_hold = λ x after. rising_on 0 hs h x (kept.next_hold h comes) after;
}

pub front_entry : (es : List Entry) (hs : List Hold) (e : Entry) → hs ≡ [] → front es hs ++ entry_text e ≡ front (es ++ e ∷ []) hs
front_entry es hs e none =
    let more : flat_map entry_text (es ++ e ∷ []) ≡ flat_map entry_text es ++ entry_text e =
    flat_map-append entry_text es (e ∷ []) ∙ ap (λ (l : List ℕ). flat_map entry_text es ++ l) (append-nil (entry_text e)) in
    ap (λ (l : List Hold). front es l ++ entry_text e) none
    ∙ ap (λ (l : List ℕ). (magic ++ l) ++ entry_text e) (append-nil (flat_map entry_text es))
    ∙ append_assoc magic (flat_map entry_text es) (entry_text e)
    ∙ ap (λ (l : List ℕ). magic ++ l) (sym more ∙ sym (append-nil (flat_map entry_text (es ++ e ∷ []))))
    ∙ ap (λ (l : List Hold). front (es ++ e ∷ []) l) (sym none)

pub front_hold : (es : List Entry) (hs : List Hold) (h : Hold) → front es hs ++ hold_text h ≡ front es (hs ++ h ∷ [])
front_hold es hs h =
    let more : flat_map hold_text (hs ++ h ∷ []) ≡ flat_map hold_text hs ++ hold_text h =
    flat_map-append hold_text hs (h ∷ []) ∙ ap (λ (l : List ℕ). flat_map hold_text hs ++ l) (append-nil (hold_text h)) in
    append_assoc magic (flat_map entry_text es ++ flat_map hold_text hs) (hold_text h)
    ∙ ap (λ (l : List ℕ). magic ++ l) (append_assoc (flat_map entry_text es) (flat_map hold_text hs) (hold_text h))
    ∙ ap (λ (l : List ℕ). magic ++ (flat_map entry_text es ++ l)) (sym more)

-- ---- numbers

pub four_is : (field : List ℕ) → length field ≡ 4 → AreBytes field → to_be_bytes w32 (from_be_bytes w32 field) ≡ field
four_is field size all = be_bytes_4 field (from_be_bytes w32 field) size (byte_at field all) refl

pub eight_is : (field : List ℕ) → length field ≡ 8 → AreBytes field → to_be_bytes w64 (from_be_bytes w64 field) ≡ field
eight_is field size all = be_bytes_8 field (from_be_bytes w64 field) size (byte_at field all) refl

pub four_below : (a b c d : ℕ) → a < 256 → b < 256 → c < 256 → d < 256 → from_be_bytes w32 (a ∷ b ∷ c ∷ d ∷ []) < 2 ^ 32
four_below a b c d one two three four = omega arith

pub eight_below : (a b c d e f g h : ℕ) → a < 256 → b < 256 → c < 256 → d < 256 → e < 256 → f < 256 → g < 256 → h < 256 → from_be_bytes w64 (a ∷ b ∷ c ∷ d ∷ e ∷ f ∷ g ∷ h ∷ []) < 2 ^ 64
eight_below a b c d e f g h one two three four five six seven eight = omega arith

pub four_small : (bytes : List ℕ) → length bytes ≡ 4 → AreBytes bytes → from_be_bytes w32 bytes < 2 ^ 32
four_small (a ∷ b ∷ c ∷ d ∷ []) long all = four_below a b c d all.0 all.1.0 all.1.1.0 all.1.1.1.0
four_small bytes long all = absurd (omega (arith, long))

pub eight_small : (bytes : List ℕ) → length bytes ≡ 8 → AreBytes bytes → from_be_bytes w64 bytes < 2 ^ 64
eight_small (a ∷ b ∷ c ∷ d ∷ e ∷ f ∷ g ∷ h ∷ []) long all =
    eight_below a b c d e f g h all.0 all.1.0 all.1.1.0 all.1.1.1.0 all.1.1.1.1.0 all.1.1.1.1.1.0 all.1.1.1.1.1.1.0 all.1.1.1.1.1.1.1.0
eight_small bytes long all = absurd (omega (arith, long))

-- ---- texts

-- a field after the bytes before it
pub joined : (text f a b c : List ℕ) → text ≡ f ++ (a ++ b) → a ++ b ≡ c → text ≡ f ++ c
joined text f a b c is same = is ∙ ap (λ (l : List ℕ). f ++ l) same

-- bytes after others
pub further : (text f a b : List ℕ) → text ≡ f ++ a → text ++ b ≡ f ++ (a ++ b)
further text f a b is = ap (λ (l : List ℕ). l ++ b) is ∙ append_assoc f a b

-- a field of one byte is that byte
pub one_byte : (field : List ℕ) → length field ≡ 1 → field ≡ get_or field 0 0 ∷ []
one_byte (byte ∷ []) size = refl
one_byte field size = absurd (omega (arith, size))
