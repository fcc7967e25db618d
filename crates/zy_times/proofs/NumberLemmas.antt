-- Where the commands of a connection are: their sessions, their numbers there, and their flags.
use Rattle.std.proofs.Common.{◌≡◌, ℕ, zero, suc, ◌+◌, ◌-◌, ◌<◌, ◌≤◌, Bool, List, [], ◌∷◌, ◌++◌, length, map, take, drop, get_or, sym, ap, ◌∙◌, append-nil, subst, arith}
use Rattle.std.specs.Prelude.{if◌then◌else◌}
use Rattle.std.proofs.lemmas.Bool.{lt-ltb, le-ltb}
use Rattle.std.proofs.lemmas.List.{length-append, length-map, map-append, take_all, take_more, take-append-drop}
use Rattle.std.proofs.lemmas.List.Concat.{flat_map-append}
use Rattle.std.proofs.Math.Seq.{drop-cons, drop-append_seam, take-append_seam}
use mathlib.Core.Logic.{dite}
use native.Mathlib.Decide.{dec_lt}
use Rattle.mc_calls.specs.declared.entry.Entry.{Entry}
use Rattle.mc_calls.specs.Order.{of_connection}
use Rattle.mc_parse.specs.declared.command.Command.{Command}
use Rattle.mc_reply.specs.Texts.{texts_of, texts_from}
use Rattle.mc_reply.proofs.TextLemmas.{texts_from-append, texts_of-append, length-texts_from}
use Rattle.zy_capture.specs.declared.record.Record.{Record}
use Rattle.zy_capture.specs.Streams.{closes, stream}
use Rattle.zy_capture.proofs.StreamLemmas.{stream_held}
use Rattle.zy_frame.specs.Cut.{commands_of}
use Rattle.zy_run.specs.Commands.{streams_in, commands_in, commands_over}
use Rattle.zy_run.specs.Output.{commands_before}
use Rattle.zy_run.proofs.StreamLemmas.{streams_held, length-streams_in}
use Rattle.zy_check.specs.Answered.{has_bytes}
use Rattle.zy_times.specs.Recording.{Recording, Numbered, one_later, numbered_over, numbered_of, first_in, answered_in}
use Rattle.zy_times.specs.Recorded.{flags_in}
use Rattle.zy_times.specs.Sessions.{commands_of_session}
use Rattle.zy_times.proofs.SessionLemmas.{no_commands}

-- ---- streams

-- the stream of a session, among those of its connection
stream_is : (records : List Record) (conn session : ℕ) → stream conn session records ≡ get_or (streams_in records conn) session []
stream_is records conn session =
    sym (stream_held (conn + 1) conn session records (omega arith)) ∙ ap (λ (l : List (List ℕ)). get_or l session []) (streams_held (conn + 1) conn records (omega arith))

over_length : (front : List (List ℕ)) (last : List ℕ) → length (commands_over (front ++ last ∷ [])) ≡ length (commands_over front) + length (commands_of last)
over_length front last =
    ap (λ (l : List Command). length l) (flat_map-append commands_of front (last ∷ []) ∙ ap (λ (l : List Command). commands_over front ++ l) (append-nil (commands_of last)))
    ∙ length-append (commands_over front) (commands_of last)

-- ---- sessions and numbers

abbrev pub numbered : ℕ → ℕ → Numbered
numbered session number = record { session = session; number = number }

module _ (stream : List ℕ) (streams : List (List ℕ)) (index : ℕ) where
  -- it is in the first session
  numbered_first : index < length (commands_of stream) → numbered_over (stream ∷ streams) index ≡ numbered 0 index
  unfolding numbered_over
  numbered_first low =
      ap (λ (b : Bool). if b then numbered 0 index else one_later (numbered_over streams (index - length (commands_of stream)))) (lt-ltb index (length (commands_of stream)) low)

  -- it is in a later one
  numbered_later : length (commands_of stream) ≤ index → numbered_over (stream ∷ streams) index ≡ one_later (numbered_over streams (index - length (commands_of stream)))
  unfolding numbered_over
  numbered_later high =
      ap (λ (b : Bool). if b then numbered 0 index else one_later (numbered_over streams (index - length (commands_of stream)))) (le-ltb index (length (commands_of stream)) high)

numbered_at : (streams : List (List ℕ)) (session number index : ℕ) → index ≡ commands_before session streams + number → number < length (commands_of (get_or streams session [])) → numbered_over streams index ≡ numbered session number
numbered_at [] session number index is low = let none = ap (λ (l : List Command). length l) no_commands in absurd (omega (arith, low, none))
numbered_at (stream ∷ streams) zero number index is low =
    let same : index ≡ number = omega (arith, is) in
    numbered_first stream streams index (omega (arith, low, same)) ∙ ap (numbered 0) same
numbered_at (stream ∷ streams) (suc session) number index is low =
    let long = length-append (commands_of stream) (commands_over (take session streams)) in
    numbered_later stream streams index (omega (arith, is, long)) ∙ ap one_later (numbered_at streams session number (index - length (commands_of stream)) (omega (arith, is, long)) low)

-- the number is one of its session's
abbrev IsWithin : List (List ℕ) → Numbered → Type 0
IsWithin streams n = n.number < length (commands_of (get_or streams n.session []))

within_over : (streams : List (List ℕ)) (index : ℕ) → index < length (commands_over streams) → IsWithin streams (numbered_over streams index)
within_over [] index low = absurd (omega (arith, low))
within_over (stream ∷ streams) index low = dite (dec_lt index (length (commands_of stream)))
    (λ here. subst (IsWithin (stream ∷ streams)) (sym (numbered_first stream streams index here)) here)
    (λ later.
    let long = length-append (commands_of stream) (commands_over streams) in
    subst (IsWithin (stream ∷ streams)) (sym (numbered_later stream streams index (omega (arith, later)))) (within_over streams (index - length (commands_of stream)) (omega (arith, low, long, later))))

module _ (r : Recording) (conn : ℕ) where
  -- a command's number is one of its session's
  pub number_within : (index : ℕ) → index < length (commands_in r.records conn) → (numbered_of r conn index).number < length (commands_of_session r.records conn (numbered_of r conn index).session)
  number_within index low =
      subst (λ (s : List ℕ). (numbered_of r conn index).number < length (commands_of s)) (sym (stream_is r.records conn (numbered_of r conn index).session)) (within_over (streams_in r.records conn) index low)

  module _ (session : ℕ) where
    abbrev size : ℕ
    size = length (commands_of_session r.records conn session)

    size_is : size ≡ length (commands_of (get_or (streams_in r.records conn) session []))
    size_is = ap (λ (s : List ℕ). length (commands_of s)) (stream_is r.records conn session)

    -- a session's command
    pub numbered_is : (number : ℕ) → number < size → numbered_of r conn (first_in r conn session + number) ≡ numbered session number
    numbered_is number low =
        let same = size_is in
        numbered_at (streams_in r.records conn) session number (first_in r conn session + number) (omega arith) (omega (arith, low, same))

    -- after the last session all commands came
    pub first_all : closes conn r.records + 1 ≤ session → first_in r conn session ≡ length (commands_in r.records conn)
    first_all past =
        let size = length-streams_in r.records conn in
        ap (λ (l : List (List ℕ)). length (commands_over l)) (take_all session (streams_in r.records conn) (omega (arith, size, past)))

    module _ (begun : session < closes conn r.records + 1) where
      among : session < length (streams_in r.records conn)
      among = let size = length-streams_in r.records conn in omega (arith, size, begun)

      -- the next session begins after it
      pub first_more : first_in r conn (session + 1) ≡ first_in r conn session + size
      first_more =
          let same = size_is in
          let more = ap (λ (l : List (List ℕ)). length (commands_over l)) (take_more (streams_in r.records conn) session [] among) ∙ over_length (take session (streams_in r.records conn)) (get_or (streams_in r.records conn) session []) in
          omega (arith, same, more)

      -- ---- flags

      abbrev own : List Entry
      own = of_connection conn r.entries

      abbrev before : List Command
      before = commands_over (take session (streams_in r.records conn))

      abbrev here : List Command
      here = commands_of_session r.records conn session

      abbrev behind : List Command
      behind = commands_over (drop (suc session) (streams_in r.records conn))

      commands_split : commands_in r.records conn ≡ before ++ (here ++ behind)
      commands_split =
          let streams = streams_in r.records conn in
          ap commands_over (sym (take-append-drop session streams)) ∙ flat_map-append commands_of (take session streams) (drop session streams)
          ∙ ap (λ (l : List (List ℕ)). before ++ commands_over l) (drop-cons streams session [] among)
          ∙ ap (λ (s : List ℕ). before ++ (commands_of s ++ behind)) (sym (stream_is r.records conn session))

      abbrev flags_of : List (List ℕ) → List Bool
      flags_of texts = map has_bytes texts

      flags_split : flags_in r conn ≡ flags_of (texts_of before own) ++ (answered_in r conn session ++ flags_of (texts_from (length before + length here) behind own))
      flags_split =
          ap (λ (l : List Command). flags_of (texts_of l own)) commands_split
          ∙ ap flags_of (texts_of-append before (here ++ behind) own ∙ ap (λ (l : List (List ℕ)). texts_of before own ++ l) (texts_from-append (length before) here behind own))
          ∙ map-append has_bytes (texts_of before own) (texts_from (length before) here own ++ texts_from (length before + length here) behind own)
          ∙ ap (λ (l : List Bool). flags_of (texts_of before own) ++ l) (map-append has_bytes (texts_from (length before) here own) (texts_from (length before + length here) behind own))

      pub answered_long : length (answered_in r conn session) ≡ size
      answered_long = length-map (texts_from (first_in r conn session) here own) has_bytes ∙ length-texts_from (first_in r conn session) here own

      -- the flags of a session, among those of its connection
      pub flags_part : take size (drop (first_in r conn session) (flags_in r conn)) ≡ answered_in r conn session
      flags_part =
          let front = flags_of (texts_of before own) in
          let rest = answered_in r conn session ++ flags_of (texts_from (length before + length here) behind own) in
          let first : length front ≡ first_in r conn session = length-map (texts_of before own) has_bytes ∙ length-texts_from 0 before own in
          ap (λ (l : List Bool). take size (drop (first_in r conn session) l)) flags_split
          ∙ ap (λ (n : ℕ). take size (drop n (front ++ rest))) (sym first) ∙ ap (take size) (drop-append_seam front rest)
          ∙ ap (λ (n : ℕ). take n rest) (sym answered_long) ∙ take-append_seam (answered_in r conn session) (flags_of (texts_from (length before + length here) behind own))

      -- they are within them
      pub flags_within : first_in r conn session + size ≤ length (flags_in r conn)
      flags_within =
          let split = ap (λ (l : List Command). length l) commands_split in
          let front = length-append before (here ++ behind) in
          let back = length-append here behind in
          let long = length-map (texts_of (commands_in r.records conn) own) has_bytes in
          let all = length-texts_from 0 (commands_in r.records conn) own in
          omega (arith, split, front, back, long, all)
