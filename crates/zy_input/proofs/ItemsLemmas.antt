-- A byte after an items file is a fault, and the byte that ends one reports its end.
use Rattle.std.proofs.Common.{◌≡◌, inl, ℕ, ◌-◌, ◌==◌, Bool, true, false, true≢false, List, [], ◌∷◌, ◌++◌, length, get_or, refl, sym, ◌∙◌, ap}
use Rattle.std.specs.Prelude.{◌&&◌, nat_le, if◌then◌else◌, Option, Some, None, Result, Err, ⊤}
use Rattle.std.specs.Int.{from_be_bytes, w64}
use Rattle.std.specs.List.{slice_index}
use Rattle.zy_base.specs.declared.file_fault.FileFault.{FileFault}
use Rattle.zy_base.specs.declared.file_fault.FileFault.TheVariants.{Truncated}
use Rattle.zy_read.specs.declared.not_taken.NotTaken.{NotTaken}
use Rattle.zy_read.specs.declared.not_taken.NotTaken.TheVariants.{Fault}
use Rattle.zy_read.specs.Standing.{given_in, Feeds, TellsFault}
use Rattle.zy_read.specs.Format.{Step}
use Rattle.zy_read.specs.Fields.{moved, judged_at, step, ended_by}
use Rattle.zy_read.specs.Fields.Judged.{Then, Gives, Wrong}
use Rattle.zy_read.specs.FieldsLasting.{lasting}
use Rattle.zy_read.proofs.Feeding.{verdict_here, fault_here}
use Rattle.zy_read.proofs.StepLemmas.{step_does, end_closes}
use Rattle.zy_items.specs.declared.due.ItemsDue.{ItemsDue}
use Rattle.zy_items.specs.declared.due.ItemsDue.TheVariants.{Magic, Bound, Tag, KeySize, Key, Flags, Unique}
use Rattle.zy_items.specs.declared.due.ItemsDue.TheVariants.{ValueSize, Value, LastingSize, Lasting, Nothing}
use Rattle.zy_items.specs.Items.{items_magic}
use Rattle.zy_items.specs.Steps.{ItemsRead, ItemsPlace, ItemsDone, items_judged, is_last, items_fields, standing_in, is_key_size, is_next, item_keys}
use Rattle.zy_items.specs.Laws.{none_follows, items_lawful}
use Rattle.zy_items.specs.Places.{StandsForItems}
use Rattle.zy_items.specs.Verdict.{items_files, good_items, is_good_items}
use Rattle.zy_items.specs.Verdict.ItemsVerdict.{Good, Bad}
use Rattle.zy_items.proofs.StateLemmas.{chosen}
use Rattle.zy_input.specs.declared.items_part.ItemsPart.{ItemsPart}
use Rattle.zy_input.specs.declared.stop.Refusal.TheVariants.{Items as OfItems}
use Rattle.zy_input.specs.Reading.{IsUnfinished, IsFaultyText}
use Rattle.zy_input.specs.Kinds.{StandsForItemsPart}
use Rattle.zy_input.proofs.FormatLemmas.{EndsOnce, StaysOpen, answer_fault}

-- the end was read where an items file is whole
record EndRead (p : ItemsPlace) : Type 0 where
  pub none : p.fault ≡ None
  pub ends : is_last p.state.due ≡ true

at_end : (is_end : Bool) (p : ItemsPlace) → is_good_items (if is_end then Good (standing_in p.state) else Bad (Truncated p.at)) ≡ true → is_end ≡ true
at_end true p is = refl
at_end false p is = cc

read_by : (found : Option FileFault) (p : ItemsPlace) (given : List ⊤) → p.fault ≡ found → is_good_items (ended_by found items_fields good_items Bad p given) ≡ true → EndRead p
read_by None p given none is = record { none = none; ends = at_end (is_last p.state.due) p is }
read_by (Some fault) p given met is = cc

end_read : (p : ItemsPlace) (given : List ⊤) → is_good_items (items_files.ended p given) ≡ true → EndRead p
end_read p given is = read_by p.fault p given refl is

closes : (p : ItemsPlace) (given : List ⊤) (byte : ℕ) → is_good_items (items_files.ended p given) ≡ true → (fault : FileFault) × ((step items_fields p byte).next.fault ≡ Some fault)
closes p given byte is = let read = end_read p given is in end_closes items_fields items_lawful p byte read.none read.ends (λ at field. none_follows p.state.due p.state at field read.ends)

-- a byte after an items file is a fault
pub once : EndsOnce items_files is_good_items
once = record { lasting = lasting items_fields good_items Bad; closes = closes; bad = λ fault. refl }

-- ---- pieces

-- a due that goes on
abbrev GoesOnAt : ItemsDue → Type 0
GoesOnAt due = is_last due ≡ false

-- a field that ends no file doesn't lead to its end
abbrev EndsNothing : ItemsDone → Type 0
EndsNothing (Then next) = GoesOnAt next.due
EndsNothing done = ⊤

judged_ends : (due : ItemsDue) (s : ItemsRead) (at : ℕ) (field : List ℕ) → EndsNothing (items_judged due s at field)
judged_ends Magic s at field =
    chosen EndsNothing (get_or field 0 0 == slice_index items_magic at) _ _ (λ yes. chosen EndsNothing (at == 7) _ _ (λ last. refl) (λ more. refl)) (λ no. tt)
judged_ends Bound s at field = refl
judged_ends Tag s at field =
    chosen EndsNothing (get_or field 0 0 == 73 && length s.lasting == 0) _ _ (λ item. refl)
    (λ no. chosen EndsNothing (get_or field 0 0 == 76) _ _ (λ key. refl) (λ other. chosen EndsNothing (get_or field 0 0 == 69) _ _ (λ end. tt) (λ none. tt)))
judged_ends KeySize s at field = chosen EndsNothing (is_key_size (from_be_bytes w64 field)) _ _ (λ yes. refl) (λ no. tt)
judged_ends (Key others) s at field = chosen EndsNothing (is_next (item_keys s.items) field) _ _ (λ yes. refl) (λ no. tt)
judged_ends Flags s at field = refl
judged_ends (Unique flags) s at field = chosen EndsNothing (nat_le (from_be_bytes w64 field) s.bound) _ _ (λ yes. refl) (λ no. tt)
judged_ends (ValueSize flags unique) s at field = chosen EndsNothing (from_be_bytes w64 field == 0) _ _ (λ none. refl) (λ some. refl)
judged_ends (Value flags unique others) s at field = refl
judged_ends LastingSize s at field = chosen EndsNothing (is_key_size (from_be_bytes w64 field)) _ _ (λ yes. refl) (λ no. tt)
judged_ends (Lasting others) s at field = chosen EndsNothing (is_next s.lasting field) _ _ (λ yes. refl) (λ no. tt)
judged_ends Nothing s at field = tt

-- the end was not read
abbrev pub IsOpen : ItemsPlace → Type 0
IsOpen p = GoesOnAt p.state.due

-- a byte that ends no file leads on
abbrev LeadsOn : Step ItemsPlace ⊤ → Type 0
LeadsOn s = s.gave ≡ None → IsOpen s.next

moved_leads : (p : ItemsPlace) (done : ItemsDone) → IsOpen p → EndsNothing done → LeadsOn (moved p done)
moved_leads p (Then next) here goes none = goes
moved_leads p (Gives next item) here goes none = cc
moved_leads p (Wrong fault) here goes none = here

step_leads : (p : ItemsPlace) (byte : ℕ) → IsOpen p → LeadsOn (step items_fields p byte)
step_leads p byte here =
    step_does items_fields LeadsOn p byte (λ fault met none. here) (λ none. here) (λ none. here)
    (moved_leads p (judged_at items_fields p byte) here (judged_ends p.state.due p.state (p.at - length p.seen) (p.seen ++ byte ∷ [])))

-- the byte that leads to the end of an items file reports it
pub stays : StaysOpen items_files is_good_items IsOpen
stays = record {
  never = λ p given unread is. true≢false (sym (end_read p given is).ends ∙ unread);
  goes = λ p byte unread none. inl (step_leads p byte unread none);
}

-- while an items file goes on, its end was not read
not_ended : (p : ItemsPlace) (given : List ⊤) (is_end : Bool) → p.fault ≡ None → is_last p.state.due ≡ is_end → is_good_items (items_files.ended p given) ≡ false → is_end ≡ false
not_ended p given false none is not_good = refl
not_ended p given true none is not_good =
    let whole : is_good_items (items_files.ended p given) ≡ true = rw (none, is) refl in absurd (true≢false (sym whole ∙ not_good))

open_here : (p : ItemsPlace) (given : List ⊤) (text : List ℕ) → StandsForItems p given text → IsUnfinished items_files is_good_items text → IsOpen p
open_here p given text stands goes_on =
    not_ended p given (is_last p.state.due) (sym (fault_here items_files p given text stands) ∙ goes_on.0) refl (ap is_good_items (sym (verdict_here items_files p given text stands)) ∙ goes_on.1)

-- a fault in a piece, whatever follows
pub fault_in_piece : (part : ItemsPart) (q : ItemsPlace) (bytes piece more : List ℕ) (answer : Result (Option ⊤) (NotTaken FileFault)) (fault : FileFault) → answer ≡ Err (Fault fault) → StandsForItemsPart part bytes → IsUnfinished items_files is_good_items bytes
    → Feeds items_files part.reader q piece (given_in answer) → TellsFault items_files part.reader piece answer → IsFaultyText items_files is_good_items (λ (f : FileFault). OfItems f) ((bytes ++ piece) ++ more) (OfItems fault)
fault_in_piece part q bytes piece more answer fault is stands goes_on feeds tells =
    answer_fault items_files is_good_items once (λ (f : FileFault). OfItems f) IsOpen stays part.reader q stands.given bytes piece more answer fault is stands.reader (open_here part.reader stands.given bytes stands.reader goes_on) goes_on feeds tells
