-- A capture, an items file and a replies file: how they are read, and that they have no fault, or one.
use Rattle.std.proofs.Common.{◌≡◌, ℕ, List, [], ◌++◌, refl, sym, ◌∙◌, ap, subst, true≢false, append_assoc}
use Rattle.std.specs.Prelude.{Option, Result, Ok, Err, IfSome}
use Rattle.zy_base.specs.declared.file_fault.FileFault.{FileFault}
use Rattle.zy_read.specs.Format.{reading_of, read_on, fault_met, verdict_on}
use Rattle.zy_read.specs.Piece.{HasGiven}
use Rattle.zy_capture.specs.declared.capture_fault.CaptureFault.{CaptureFault}
use Rattle.zy_capture.specs.declared.record.Record.{Record}
use Rattle.zy_capture.specs.Outputs.{AllOutputs}
use Rattle.zy_capture.specs.RepliesVerdict as Texts
use Rattle.zy_items.specs.declared.standing.Standing.{Standing as Kept}
use Rattle.zy_items.specs.Places.{StandsForItems}
use Rattle.zy_items.specs.Standing.{Standing}
use Rattle.zy_items.specs.Verdict as Items
use Rattle.zy_read.specs.declared.stop.Stop.{Stop}
use Rattle.zy_read.specs.declared.stop.Stop.TheVariants.{Refused, ReadFault, NoMemory}
use Rattle.zy_input.specs.declared.items_part.ItemsPart.{ItemsPart}
use Rattle.zy_input.specs.declared.window.NotedWindow.{NotedWindow}
use Rattle.zy_input.specs.declared.stop.Refusal.{Refusal}
use Rattle.zy_input.specs.declared.stop.Refusal.TheVariants.{Capture, Journal, Replies as OfReplies, Items as OfItems, Pcap}
use Rattle.zy_input.specs.Parts.{IsCaptureText, HasNotes}
use Rattle.zy_input.specs.Window.{IsItemsText, IsMadeOfWindow, HasItemsFault, HasFaultAfterItems, HasWindowFault, HasReadWindow}
use Rattle.zy_input.specs.Reading.{Kind, IsUnfinished, IsReading, HasFaultBehind, HasReadPart, StopsPartBy, never}
use Rattle.zy_input.specs.Kinds.{capture_kind, items_kind, replies_kind, StandsForItemsPart, SaysStanding, StandsForRepliesPart, HasOutputs}
use Rattle.zy_input.proofs.FaultLemmas.{after_capture, captures_differ, replies_differ, good_bad, not_later}
use Rattle.zy_input.proofs.FormatLemmas.{one_rest, ends_faulty}
use Rattle.zy_input.proofs.ItemsLemmas.{once}
use Rattle.zy_input.proofs.PartLemmas.{begun, if_some, read_all}
use Rattle.zy_input.proofs.WholeLemmas.{is_capture, begins_faulty}

-- ---- where the items file begins

no_items : IsUnfinished Items.items_files Items.is_good_items []
unfolding fault_met verdict_on reading_of read_on
no_items = (refl, refl)

-- before the first byte of the items file
pub items_begun : {S : Type 0} (rest : S → Option (List ℕ)) (faults : S → ℕ) (first now : S) (left bytes : List ℕ) (part : ItemsPart) → HasGiven rest faults first now left bytes → StandsForItems part.reader [] [] → IsReading items_kind rest faults first now left bytes [] part
items_begun rest faults first now left bytes part given reader = begun items_kind rest faults first now left bytes part given (record { given = []; reader = reader }) no_items

pub is_items : (text : List ℕ) (standing : Standing) → Items.items_verdict text ≡ Items.ItemsVerdict.Good standing → IsItemsText text
is_items text standing good = ap Items.is_good_items good

-- ---- stops

-- a fault of the capture
pub first_fault : {N : Type 0} (Holds : N → ℕ → List Record → Type 0) (text : List ℕ) (refusal : Refusal) → HasFaultBehind (capture_kind Holds) [] text refusal → HasWindowFault text refusal
first_fault Holds text refusal behind =
    let met = begins_faulty Holds text refusal behind in
    subst (λ (r : Refusal). HasWindowFault text r) (sym met.1) met.2

-- a fault of the items file
pub items_fault : (bytes text : List ℕ) (refusal : Refusal) → IsCaptureText bytes → HasFaultBehind items_kind bytes text refusal → HasWindowFault text refusal
items_fault bytes text refusal good behind =
    let met = ends_faulty Items.items_files Items.is_good_items (λ (f : FileFault). OfItems f) StandsForItemsPart SaysStanding bytes text refusal behind in
    subst (λ (r : Refusal). HasWindowFault text r) (sym met.1) (record {
      capture_text = bytes;
      rest = met.2.text;
      whole = met.2.whole;
      of_capture = good;
      none = met.2.none;
      bad = met.2.bad;
    })

-- a fault of the replies file
pub last_fault : (bytes more text : List ℕ) (refusal : Refusal) → IsCaptureText bytes → IsItemsText more → HasFaultBehind replies_kind (bytes ++ more) text refusal → HasWindowFault text refusal
last_fault bytes more text refusal good items behind =
    let met = ends_faulty Texts.replies never (λ (f : FileFault). OfReplies f) StandsForRepliesPart HasOutputs (bytes ++ more) text refusal behind in
    subst (λ (r : Refusal). HasWindowFault text r) (sym met.1) (record {
      capture_text = bytes;
      items_text = more;
      rest = met.2.text;
      whole = met.2.whole ∙ append_assoc bytes more met.2.text;
      of_capture = good;
      of_items = items;
      bad = met.2.bad;
    })

-- reading stops for a fault of the part that is read
pub window_stopped : {P T N S : Type 0} (Holds : N → ℕ → List Record → Type 0) (kind : Kind P T) (rest : S → Option (List ℕ)) (faults : S → ℕ) (first now : S) (before : List ℕ) (stop : Stop Refusal) → ((text : List ℕ) (refusal : Refusal) → HasFaultBehind kind before text refusal → HasWindowFault text refusal)
    → StopsPartBy kind rest faults first now before stop → HasReadWindow Holds rest faults first now (Err stop)
window_stopped Holds kind rest faults first now before (Refused refusal) fault stops = (
  (before ++ stops.0.0, fault (before ++ stops.0.0) refusal (record { rest = stops.0.0; whole = refl; faulty = stops.0.1 })),
  if_some (rest first) (λ text. HasFaultBehind kind before text refusal) (λ text. HasWindowFault text refusal) (λ text. fault text refusal) stops.1,
)
window_stopped Holds kind rest faults first now before ReadFault fault stops = stops
window_stopped Holds kind rest faults first now before NoMemory fault stops = tt

-- ---- all parts

pub all_parts : {N S : Type 0} (Holds : N → ℕ → List Record → Type 0) (rest : S → Option (List ℕ)) (faults : S → ℕ) (first now : S) (left bytes more : List ℕ) (window : NotedWindow N) → HasNotes Holds bytes window.capture.streams window.capture.notes → SaysStanding window.standing more
    → HasReadPart replies_kind rest faults first now left (bytes ++ more) window.outputs → HasReadWindow Holds rest faults first now (Ok window)
all_parts Holds rest faults first now left bytes more window noted items has = (
  (bytes ++ more) ++ has.bytes,
  read_all replies_kind rest faults first now left (bytes ++ more) window.outputs (λ text whole. true≢false (sym whole)) has,
  record {
    window = record {
      capture_text = bytes;
      items_text = more;
      replies_text = has.bytes;
      whole = append_assoc bytes more has.bytes;
      of_capture = noted.capture;
      of_items = items;
      of_replies = has.gives.0;
    };
    noted = noted.noted;
  },
  has.gives.1,
)

-- ---- a window or a fault

after_items : (a x c y : List ℕ) → a ++ x ≡ c ++ y → IsItemsText a → IsItemsText c → x ≡ y
after_items a x c y is one two = one_rest Items.items_files Items.is_good_items once a x c y is one two

pub no_fault : (text : List ℕ) (streams : List (List (List ℕ))) (standing : Standing) (outputs : AllOutputs) (refusal : Refusal) → IsMadeOfWindow text streams standing outputs → HasWindowFault text refusal → ⊥
no_fault text streams standing outputs (Capture fault) parts has = has.none parts.capture_text (parts.items_text ++ parts.replies_text) parts.whole (is_capture parts.capture_text streams parts.of_capture)
no_fault text streams standing outputs (OfItems fault) parts has =
    let rest : has.rest ≡ parts.items_text ++ parts.replies_text = after_capture text has.capture_text has.rest parts.capture_text (parts.items_text ++ parts.replies_text) has.whole parts.whole has.of_capture (is_capture parts.capture_text streams parts.of_capture) in
    has.none parts.items_text parts.replies_text rest (is_items parts.items_text standing parts.of_items)
no_fault text streams standing outputs (OfReplies fault) parts has =
    let behind : has.items_text ++ has.rest ≡ parts.items_text ++ parts.replies_text = after_capture text has.capture_text (has.items_text ++ has.rest) parts.capture_text (parts.items_text ++ parts.replies_text) has.whole parts.whole has.of_capture (is_capture parts.capture_text streams parts.of_capture) in
    let rest : has.rest ≡ parts.replies_text = after_items has.items_text has.rest parts.items_text parts.replies_text behind has.of_items (is_items parts.items_text standing parts.of_items) in
    good_bad parts.replies_text outputs.version outputs fault parts.of_replies (subst (λ (l : List ℕ). Texts.verdict l ≡ Texts.Verdict.Bad fault) rest has.bad)
no_fault text streams standing outputs (Journal fault) parts has = has
no_fault text streams standing outputs (Pcap fault) parts has = has

-- a fault of the items file is not one of the replies file
not_last : (text : List ℕ) (fault other : FileFault) → HasItemsFault text fault → HasFaultAfterItems text other → ⊥
not_last text fault other has later =
    has.none later.items_text later.rest (after_capture text has.capture_text has.rest later.capture_text (later.items_text ++ later.rest) has.whole later.whole has.of_capture later.of_capture) later.of_items

items_differ : (text : List ℕ) (first second : FileFault) → Items.items_verdict text ≡ Items.ItemsVerdict.Bad first → Items.items_verdict text ≡ Items.ItemsVerdict.Bad second → first ≡ second
items_differ text first second one two = let is : Items.ItemsVerdict.Bad first ≡ Items.ItemsVerdict.Bad second = sym one ∙ two in cc

one_items : (text : List ℕ) (first second : FileFault) → HasItemsFault text first → HasItemsFault text second → first ≡ second
one_items text first second one two =
    let rest : one.rest ≡ two.rest = after_capture text one.capture_text one.rest two.capture_text two.rest one.whole two.whole one.of_capture two.of_capture in
    items_differ two.rest first second (subst (λ (l : List ℕ). Items.items_verdict l ≡ Items.ItemsVerdict.Bad first) rest one.bad) two.bad

one_last : (text : List ℕ) (first second : FileFault) → HasFaultAfterItems text first → HasFaultAfterItems text second → first ≡ second
one_last text first second one two =
    let behind : one.items_text ++ one.rest ≡ two.items_text ++ two.rest = after_capture text one.capture_text (one.items_text ++ one.rest) two.capture_text (two.items_text ++ two.rest) one.whole two.whole one.of_capture two.of_capture in
    let rest : one.rest ≡ two.rest = after_items one.items_text one.rest two.items_text two.rest behind one.of_items two.of_items in
    replies_differ two.rest first second (subst (λ (l : List ℕ). Texts.verdict l ≡ Texts.Verdict.Bad first) rest one.bad) two.bad

pub one_fault : (text : List ℕ) (first second : Refusal) → HasWindowFault text first → HasWindowFault text second → first ≡ second
one_fault text (Capture first) (Capture second) one two = ap (λ (f : CaptureFault). Capture f) (captures_differ text first second one.bad two.bad)
one_fault text (Capture first) (OfItems second) one two = absurd (not_later text two.capture_text two.rest first one two.whole two.of_capture)
one_fault text (Capture first) (OfReplies second) one two = absurd (not_later text two.capture_text (two.items_text ++ two.rest) first one two.whole two.of_capture)
one_fault text (Capture first) (Journal second) one two = absurd two
one_fault text (Capture first) (Pcap second) one two = absurd two
one_fault text (OfItems first) (Capture second) one two = absurd (not_later text one.capture_text one.rest second two one.whole one.of_capture)
one_fault text (OfItems first) (OfItems second) one two = ap (λ (f : FileFault). OfItems f) (one_items text first second one two)
one_fault text (OfItems first) (OfReplies second) one two = absurd (not_last text first second one two)
one_fault text (OfItems first) (Journal second) one two = absurd two
one_fault text (OfItems first) (Pcap second) one two = absurd two
one_fault text (OfReplies first) (Capture second) one two = absurd (not_later text one.capture_text (one.items_text ++ one.rest) second two one.whole one.of_capture)
one_fault text (OfReplies first) (OfItems second) one two = absurd (not_last text second first two one)
one_fault text (OfReplies first) (OfReplies second) one two = ap (λ (f : FileFault). OfReplies f) (one_last text first second one two)
one_fault text (OfReplies first) (Journal second) one two = absurd two
one_fault text (OfReplies first) (Pcap second) one two = absurd two
one_fault text (Journal first) second one two = absurd one
one_fault text (Pcap first) second one two = absurd one
