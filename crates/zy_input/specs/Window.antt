-- The input of the program `judge` for a window of a recording: a capture, an items file and a replies file, one after
-- the other. The end of each of the first two is known from its own bytes, the replies file ends with the source, and
-- the first fault of the input counts.
use Rattle.std.specs.Prelude.{◌≡◌, ℕ, true, List, ◌++◌, Option, Result, Ok, Err, IfSome, ⊤}
use Rattle.zy_base.specs.declared.file_fault.FileFault.{FileFault}
use Rattle.zy_base.specs.Outside.{Rose}
use Rattle.zy_capture.specs.declared.record.Record.{Record}
use Rattle.zy_capture.specs.Outputs.{AllOutputs, AreOutputs}
use Rattle.zy_capture.specs.Replies.{items_of}
use Rattle.zy_capture.specs.RepliesVerdict as Replies
use Rattle.zy_items.specs.Standing.{Standing, standing_of}
use Rattle.zy_items.specs.Verdict as Items
use Rattle.zy_input.specs.declared.window.NotedWindow.{NotedWindow}
use Rattle.zy_input.specs.declared.stop.Refusal.{Refusal}
use Rattle.zy_input.specs.declared.stop.Refusal.TheVariants.{Capture, Journal, Replies as OfReplies, Items as OfItems, Pcap}
use Rattle.zy_input.specs.Parts.{IsCaptureText, HasStreams, HasCaptureFault}
use Rattle.zy_read.specs.Bytes.{ReadsAll}
use Rattle.zy_read.specs.declared.stop.Stop.{Stop}
use Rattle.zy_read.specs.declared.stop.Stop.TheVariants.{Refused, ReadFault, NoMemory}

-- ---- windows

-- the text is an items file
abbrev pub IsItemsText : List ℕ → Type 0
IsItemsText text = Items.is_good_items (Items.items_verdict text) ≡ true

-- the text is a capture with these streams, then an items file that says this, and then a replies file with these
-- outputs
pub record IsMadeOfWindow (text : List ℕ) (streams : List (List (List ℕ))) (standing : Standing)
    (outputs : AllOutputs) : Type 0 where
  pub capture_text : List ℕ
  pub items_text : List ℕ
  pub replies_text : List ℕ
  pub whole : text ≡ capture_text ++ (items_text ++ replies_text)
  pub of_capture : HasStreams capture_text streams
  pub of_items : Items.items_verdict items_text ≡ Items.ItemsVerdict.Good standing
  pub of_replies : Replies.verdict replies_text ≡ Replies.Verdict.Good outputs.version (items_of outputs)

-- the same, and these are notes on the records of the capture
pub record IsMadeOfNotedWindow {N : Type 0} (Holds : N → ℕ → List Record → Type 0) (text : List ℕ)
    (streams : List (List (List ℕ))) (notes : N) (standing : Standing) (outputs : AllOutputs) : Type 0 where
  pub window : IsMadeOfWindow text streams standing outputs
  pub noted : Holds notes window.of_capture.count window.of_capture.records

-- ---- faults

-- no prefix of the text is an items file
abbrev pub HasNoItems : List ℕ → Type 0
HasNoItems text = (front back : List ℕ) → text ≡ front ++ back → ¬ IsItemsText front

-- the text is a capture, and then a text that begins with no items file and has this fault as one
pub record HasItemsFault (text : List ℕ) (fault : FileFault) : Type 0 where
  pub capture_text : List ℕ
  pub rest : List ℕ
  pub whole : text ≡ capture_text ++ rest
  pub of_capture : IsCaptureText capture_text
  pub none : HasNoItems rest
  pub bad : Items.items_verdict rest ≡ Items.ItemsVerdict.Bad fault

-- the text is a capture, an items file, and then a text that has this fault as a replies file
pub record HasFaultAfterItems (text : List ℕ) (fault : FileFault) : Type 0 where
  pub capture_text : List ℕ
  pub items_text : List ℕ
  pub rest : List ℕ
  pub whole : text ≡ capture_text ++ (items_text ++ rest)
  pub of_capture : IsCaptureText capture_text
  pub of_items : IsItemsText items_text
  pub bad : Replies.verdict rest ≡ Replies.Verdict.Bad fault

-- the first fault of the text; its place counts from the start of its part
abbrev pub HasWindowFault : List ℕ → Refusal → Type 0
HasWindowFault text (Capture fault) = HasCaptureFault text fault
HasWindowFault text (OfItems fault) = HasItemsFault text fault
HasWindowFault text (OfReplies fault) = HasFaultAfterItems text fault
HasWindowFault text (Journal fault) = ⊥
HasWindowFault text (Pcap fault) = ⊥

-- a window can have this fault
abbrev pub IsWindowFault : Refusal → Type 0
IsWindowFault refusal = (text : List ℕ) × HasWindowFault text refusal

-- ---- reading

-- the window is that of all that the source gave; or some window has this fault, and the source's text has it, if that
-- is known; or the count of faults rose, or is at its largest value; `NoMemory` needs no cause
abbrev pub HasReadWindow : {N S : Type 0} → (N → ℕ → List Record → Type 0) → (S → Option (List ℕ)) → (S → ℕ) → S → S
    → Result (NotedWindow N) (Stop Refusal) → Type 0
HasReadWindow Holds rest faults first now (Ok window) =
    (text : List ℕ) × ReadsAll (rest first) (rest now) text
    × IsMadeOfNotedWindow Holds text window.capture.streams window.capture.notes (standing_of window.standing)
    window.outputs × AreOutputs window.outputs
HasReadWindow Holds rest faults first now (Err (Refused refusal)) =
    IsWindowFault refusal × IfSome (rest first) (λ text. HasWindowFault text refusal)
HasReadWindow Holds rest faults first now (Err ReadFault) = Rose (faults first) (faults now)
HasReadWindow Holds rest faults first now (Err NoMemory) = ⊤
