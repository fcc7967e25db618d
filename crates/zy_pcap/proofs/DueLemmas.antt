-- The fields of records: the bytes that are kept of each, and what a byte does when a file has its
-- most bytes.
use Rattle.std.proofs.Common.{◌≡◌, ℕ, ◌-◌, ◌<◌, ◌≤◌, List, [], ◌∷◌, ◌++◌, length, length-append, take, refl, ap, ◌∙◌, arith}
use Rattle.std.specs.Prelude.{None, nat_le, true}
use Rattle.std.proofs.lemmas.Bool.Decides.{nat_tests}
use Rattle.zy_read.specs.Fields.{step}
use Rattle.zy_pcap.specs.declared.pcap_fault.PcapFault.TheVariants as Faults
use Rattle.zy_pcap.specs.declared.due.Due.{Due}
use Rattle.zy_pcap.specs.declared.due.Due.TheVariants as Dues
use Rattle.zy_pcap.specs.Steps.{FilePlace, due_width, file_limit, frames}
use Rattle.zy_pcap.specs.Moves.{field_bytes, IsWord, KeepsField, IsPartOfField, broken}

-- ---- the bytes that are kept

pub word_seen : (due : Due) (field frame : List ℕ) → IsWord due → field_bytes due field frame ≡ field
word_seen (Dues.Frame others) field frame is = absurd is
word_seen due field frame is = refl

pub word_kept : (due : Due) (field : List ℕ) (room : ℕ) → IsWord due → length field < due_width due → KeepsField due field [] room
word_kept (Dues.Frame others) field room is short = absurd is
word_kept due field room is short = (short, refl)

pub word_short : (due : Due) → IsWord due → due_width due ≤ 8
word_short (Dues.Frame others) is = absurd is
word_short due is = omega arith

-- a field has a byte
pub some_width : (due : Due) → 0 < due_width due
some_width (Dues.Frame others) = omega arith
some_width due = omega arith

-- what a byte does to the bytes that are kept
pub ruleset kept_words = (word_seen, word_kept, word_short, some_width)

-- a list that grew by an element, without it
pub take_front : (xs : List ℕ) (x : ℕ) → take (length (xs ++ x ∷ []) - 1) (xs ++ x ∷ []) ≡ xs
take_front xs x = ap (λ (n : ℕ). take n (xs ++ x ∷ [])) (omega (arith, length-append xs (x ∷ []))) ∙ front xs
  where
    front : (ys : List ℕ) → take (length ys) (ys ++ x ∷ []) ≡ ys
    front [] = refl
    front (y ∷ ys) = ap (λ (l : List ℕ). y ∷ l) (front ys)

-- ---- the most bytes of a file

none_of : (seen : List ℕ) → length seen < 1 → seen ≡ []
none_of [] few = refl
none_of (byte ∷ seen) few = absurd (omega (arith, few))

by_due : (due : Due) (p : FilePlace) (byte : ℕ) → p.state.due ≡ due → p.fault ≡ None → file_limit ≤ p.at → length p.seen < due_width due → nat_le file_limit p.at ≡ true → nat_le file_limit (p.at - 0) ≡ true
    → step frames p byte ≡ record { next = broken p Faults.PcapTooLong; gave = None }
by_due Dues.Begin p byte is none full part most same =
    let no : p.seen ≡ [] = none_of p.seen part in
    rw (none, is, no, same) refl
by_due due p byte is none full part most same = rw (none, is, most) refl

-- a further byte after the most
pub full_step : (p : FilePlace) (byte : ℕ) → p.fault ≡ None → file_limit ≤ p.at → IsPartOfField p → step frames p byte ≡ record { next = broken p Faults.PcapTooLong; gave = None }
full_step p byte none full part =
    by_due p.state.due p byte refl none full part (grind (arith, nat_tests)) (grind (arith, nat_tests))
