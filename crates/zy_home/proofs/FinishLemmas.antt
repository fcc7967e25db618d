-- The end of a connection whose block is idle.
use Rattle.std.specs.Prelude.{flat_map, map}
use Rattle.std.proofs.Common.{◌≡◌, ℕ, List, [], ◌∷◌, ◌++◌, length, take, refl, sym, ap, ◌∙◌, arith}
use Rattle.std.proofs.Common.{append-nil}
use Rattle.std.proofs.lemmas.List.{take_all, map-append}
use Rattle.mc_parse.specs.declared.command.Command.{Command}
use Rattle.mc_parse.specs.Calls.{due}
use Rattle.mc_reply.specs.Texts.{texts_of}
use Rattle.mc_reply.proofs.TextLemmas.{length-texts_from}
use Rattle.zy_frame.specs.Frame.{command_of}
use Rattle.zy_frame.specs.Cut.{commands_of, frames_of}
use Rattle.zy_rx.specs.Session.{Sessions, streams_of}
use Rattle.zy_conn.specs.Work.{Start, Mark, commands_of_frames, texts_all, texts_taken}
use Rattle.zy_conn.specs.Kept.{KeepsCommands, command_begun, dues_begun}
use Rattle.zy_conn.specs.Block.{Blocked}
use Rattle.zy_home.specs.Link.{Link, LinkStands, frames_in}
use Rattle.zy_home.specs.Idle.{IsIdleWith, due_mark, mark_in}
use Rattle.zy_home.specs.Finish.{ConnEnd, commands_received}

-- the commands of all frames
commands-frames : (streams : List (List ℕ)) → map command_of (flat_map frames_of streams) ≡ flat_map commands_of streams
commands-frames [] = refl
commands-frames (stream ∷ streams) = map-append command_of (frames_of stream) (flat_map frames_of streams) ∙ ap (λ l. commands_of stream ++ l) (commands-frames streams)

pub conn_end : (b : Blocked) (l : Link) (s : Sessions) → KeepsCommands b.work → IsIdleWith b.work l → mark_in b ≡ due_mark l → LinkStands l s
    → ConnEnd b.work.table.slots b.work.calls s l.output l.ends
conn_end b l s k i mark stands =
    let taken : b.work.taken ≡ frames_in s = i.taken ∙ sym (append-nil l.inlet.sent) ∙ ap (λ x. l.inlet.sent ++ x) (sym i.waiting) ∙ stands.frames in
    let all : commands_of_frames b.work.taken ≡ commands_received s = ap commands_of_frames taken ∙ commands-frames (streams_of s) in
    let done : commands_of_frames b.work.taken ≡ k.done = k.frames ∙ ap (λ (x : Start). k.done ++ command_begun x) i.begun ∙ append-nil k.done in
    let conn : b.work.conn ≡ l.output.conn = ap (λ (m : Mark). m.0) mark in
    let count = k.count in
    let size = ap (λ (x : List Command). length x) done in
    let whole = ap (λ (x : List Command). length x) all in
    let long = length-texts_from 0 (commands_of_frames b.work.taken) b.work.calls in
    let is_all : take b.work.finished (texts_all b.work) ≡ texts_all b.work = take_all b.work.finished (texts_all b.work) (omega arith) in record {
      dues = k.dues ∙ ap (λ (x : Start). due b.work.table.slots b.work.conn k.done ++ dues_begun b.work.conn b.work.finished x) i.begun
          ∙ append-nil (due b.work.table.slots b.work.conn k.done)
          ∙ (λ j. due b.work.table.slots (conn j) ((sym done ∙ all) j));
      texts = sym (ap (λ (m : Mark). m.1.1) mark) ∙ sym (append-nil (texts_taken b.work))
          ∙ ap (λ x. texts_taken b.work ++ x) (sym i.batch) ∙ k.texts ∙ is_all
          ∙ ap (λ x. texts_of x b.work.calls) all;
      finished = i.finished ∙ sym count ∙ sym size ∙ whole;
      ends_are = stands.ends;
    }
