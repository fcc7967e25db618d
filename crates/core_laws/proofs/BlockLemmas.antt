-- What a connection's work has done.
use Rattle.std.proofs.Common.{◌≡◌, ◌≤◌, List, ◌++◌, length, sym, ap, ◌∙◌, arith, append-nil, length-append}
use Rattle.std.proofs.lemmas.List.{length-map, length-take-le, take_all}
use Rattle.mc_parse.specs.Calls.{due, dues_of}
use Rattle.mc_reply.specs.Texts.{texts_of}
use Rattle.mc_reply.proofs.TextLemmas.{length-texts_from}
use Rattle.zy_frame.specs.declared.frame_kind.FrameKind.{FrameKind}
use Rattle.zy_frame.specs.Frame.{command_of}
use Rattle.zy_conn.specs.Work.{Worked, commands_of_frames, texts_all, texts_taken}
use Rattle.zy_conn.specs.Kept.{command_begun, dues_begun, KeepsCommands}
use Rattle.core_laws.specs.Done.{HasDone}
use Rattle.zy_conn.proofs.KeptLemmas.{done_idle, finished_idle}

pub done_calls : (offered : List FrameKind) (w : Worked) → HasDone offered w → dues_of w.calls ≡ due w.table.slots w.conn (commands_of_frames offered)
done_calls offered w h =
    h.kept.dues
    ∙ ap (λ s. due w.table.slots w.conn h.kept.done ++ dues_begun w.conn w.finished s) h.none
    ∙ append-nil (due w.table.slots w.conn h.kept.done)
    ∙ ap (due w.table.slots w.conn) (sym (done_idle w h.kept h.none) ∙ ap commands_of_frames h.all)

pub done_texts : (offered : List FrameKind) (w : Worked) → HasDone offered w → texts_taken w ++ w.batch ≡ texts_of (commands_of_frames offered) w.calls
done_texts offered w h =
    let size = finished_idle w h.kept h.none in
    let long = length-texts_from 0 (commands_of_frames w.taken) w.calls in
    h.kept.texts ∙ take_all w.finished (texts_all w) (omega arith) ∙ ap (λ l. texts_of (commands_of_frames l) w.calls) h.all

pub done_count : (offered : List FrameKind) (w : Worked) → HasDone offered w → w.finished ≡ length offered
done_count offered w h = sym (finished_idle w h.kept h.none) ∙ length-map w.taken command_of ∙ ap length h.all

-- the number of finished commands is at most that of frames taken
finished_taken : (w : Worked) → KeepsCommands w → w.finished ≤ length (texts_all w)
finished_taken w k =
    let long = length-texts_from 0 (commands_of_frames w.taken) w.calls in
    let size = ap length k.frames in
    let more = length-append k.done (command_begun w.begun) in
    let count = k.count in
    omega arith

pub one_text : (w : Worked) → KeepsCommands w → length (texts_taken w ++ w.batch) ≡ w.finished
one_text w k = ap length k.texts ∙ length-take-le w.finished (texts_all w) (finished_taken w k)

pub taken_texts : (w : Worked) → KeepsCommands w → length (texts_taken w) ≡ w.shown
taken_texts w k = let within = finished_taken w k in let shown = k.shown in length-take-le w.shown (texts_all w) (omega arith)
