-- How many bytes the files of a run have.
use Rattle.std.specs.Prelude.{◌==◌, filter, if◌then◌else◌, not}
use Rattle.std.specs.List.{AllByRecursion, concat, range_with_len, sum_by, slice_index_or}
use Rattle.std.proofs.Common.{◌≡◌, ℕ, zero, suc, ◌+◌, ◌-◌, ◌*◌, ◌^◌, ◌<◌, ◌≤◌, Bool, true, false, List, [], ◌∷◌, ◌++◌}
use Rattle.std.proofs.Common.{length, take, map, refl, sym, ap, ◌∙◌, arith, length-append, append_assoc}
use Rattle.std.proofs.lemmas.List.{length-map, append-nil}
use Rattle.std.proofs.lemmas.List.Filters.{length-filter_both}
use Rattle.std.proofs.lemmas.List.Concat.{flat_map-append}
use Rattle.std.proofs.lemmas.List.Folds.{concat-append}
use Rattle.std.proofs.lemmas.List.FromFn.{length-map-range_with_len}
use Rattle.std.proofs.lemmas.List.Sums.{sum_by-cons}
use Rattle.std.proofs.Math.Seq.{take-append_seam, get_or-append_seam}
use Rattle.mc_calls.specs.declared.entry.Entry.{Entry}
use Rattle.mc_calls.specs.declared.hold.Hold.{Hold}
use Rattle.mc_calls.specs.Bounds.{FitsEntry}
use Rattle.mc_calls.specs.Order.{of_connection}
use Rattle.mc_calls.specs.Replies.{replies_at}
use Rattle.zy_capture.specs.declared.record.Record.{Record}
use Rattle.zy_capture.specs.Capture.{Spells}
use Rattle.zy_capture.specs.Outputs.{AllOutputs}
use Rattle.zy_capture.specs.Replies.{replies_bytes}
use Rattle.zy_capture.specs.Streams.{sessions_of, no_bytes, with_records}
use Rattle.zy_capture.proofs.AddLemmas.{streams_size}
use Rattle.format_laws.proofs.CaptureLengthLemmas.{streams_few, sessions_few, replies_few}
use Rattle.zy_journal.specs.declared.journal.Journal.{Journal}
use Rattle.zy_journal.specs.Journal.{IsEntry, IsHold, IsJournal, journal_bytes}
use Rattle.format_laws.proofs.JournalLengthLemmas.{journal_few}
use Rattle.mc_parse.specs.declared.command.Command.{Command}
use Rattle.mc_parse.specs.Calls.{calls_of, due_at, due_from, due_of}
use Rattle.mc_parse.specs.Bounds.{IsCommand}
use Rattle.mc_parse.proofs.CallLemmas.{length-tagged}
use Rattle.mc_parse.proofs.PlainLemmas.{each-append}
use Rattle.mc_laws.proofs.WidthLemmas.{width, calls_few}
use Rattle.mc_reply.specs.Text.{text}
use Rattle.mc_reply.specs.Texts.{texts_from}
use Rattle.mc_laws.proofs.SizeLemmas.{IsSmall, text_few}
use Rattle.mc_reply.proofs.TextLemmas.{texts_from-append}
use Rattle.zy_frame.specs.Frame.{IsFrameText, frame_of, command_of}
use Rattle.zy_frame.specs.Cut.{joined, cut_of, frames_of, commands_of}
use Rattle.zy_frame.proofs.CutLemmas.{splits_cut}
use Rattle.zy_frame.proofs.BoundLemmas.{stream_within}
use Rattle.run_laws.proofs.FrameWidthLemmas.{text_width}
use Rattle.zy_run.specs.Commands.{commands_over, commands_in, streams_in}
use Rattle.zy_run.specs.Output.{session_output, connection_outputs}
use Rattle.zy_run.specs.Spans.{held_of}
use Rattle.zy_run.proofs.StreamLemmas.{streams_held}
use Rattle.zy_check.specs.OfRun.{AreOfRun}
use Rattle.run_laws.proofs.TotalLemmas.{total, total-le, total-first, total-at, total-list, total-map}
use Rattle.run_laws.proofs.TotalLemmas.{entries_counted, holds_counted, replies_counted}

-- ---- commands

-- the keys and letters of commands, and one more for each
weigh : List Command → ℕ
weigh [] = 0
weigh (command ∷ commands) = width command + 1 + weigh commands

weigh-none : weigh [] ≤ 0
unfolding weigh
weigh-none = omega arith

weigh-append : (front commands : List Command) → weigh (front ++ commands) ≡ weigh front + weigh commands
unfolding weigh
weigh-append [] commands = omega arith
weigh-append (command ∷ front) commands = let rest = weigh-append front commands in omega (arith, rest)

-- there are no more commands than they weigh
count_few : (commands : List Command) → length commands ≤ weigh commands
unfolding weigh
count_few [] = omega arith
count_few (command ∷ commands) = let rest = count_few commands in omega (arith, rest)

-- the expected calls of commands
due_few : (shards conn index : ℕ) (commands : List Command) → shards ≤ 256 → length (due_from shards conn index commands) ≤ 256 * weigh commands
unfolding weigh
due_few shards conn index [] few = omega arith
due_few shards conn index (command ∷ commands) few =
    omega (
      arith,
      length-append (due_at shards conn index command) (due_from shards conn (index + 1) commands),
      length-tagged conn index 0 (calls_of shards command),
      calls_few shards command few,
      due_few shards conn (index + 1) commands few,
    )

-- ---- streams

pieces_weigh : (pieces : List (List ℕ)) → AllByRecursion IsFrameText pieces → weigh (map command_of (map frame_of pieces)) ≤ length (joined pieces)
unfolding weigh
pieces_weigh [] each = omega arith
pieces_weigh (piece ∷ pieces) each = omega (arith, length-append piece (joined pieces), text_width piece each.0, pieces_weigh pieces each.1)

-- the commands of a stream weigh no more than its bytes
stream_weigh : (stream : List ℕ) → weigh (commands_of stream) ≤ length stream
unfolding frames_of
stream_weigh stream =
    let is = splits_cut stream in
    let whole = ap (λ (l : List ℕ). length l) is.whole in
    omega (arith, whole, length-append (joined (cut_of stream).pieces) (cut_of stream).rest, pieces_weigh (cut_of stream).pieces is.each)

streams_weigh : (streams : List (List ℕ)) → weigh (commands_over streams) ≤ sum_by length streams
streams_weigh [] = weigh-none
streams_weigh (stream ∷ streams) =
    omega (arith, weigh-append (commands_of stream) (commands_over streams), stream_weigh stream, streams_weigh streams, sum_by-cons length stream streams)

streams_within : (streams : List (List ℕ)) → AllByRecursion IsCommand (commands_over streams)
streams_within [] = tt
streams_within (stream ∷ streams) = each-append IsCommand (commands_of stream) (commands_over streams) (stream_within stream) (streams_within streams)

-- ---- replies

replies_small : (index : ℕ) (own : List Entry) → AllByRecursion (λ (e : Entry). IsSmall e.reply) own → AllByRecursion IsSmall (replies_at index own)
replies_small index [] small = tt
replies_small index (e ∷ own) small = go (e.tag.index == index) (replies_small index own small.1)
  where
    go : (b : Bool) → AllByRecursion IsSmall (replies_at index own)
        → AllByRecursion IsSmall (map (λ (x : Entry). x.reply) (if b then e ∷ filter (λ (x : Entry). x.tag.index == index) own else filter (λ (x : Entry). x.tag.index == index) own))
    go true rest = (small.0, rest)
    go false rest = rest

replies_within : (index : ℕ) (own : List Entry) → length (replies_at index own) ≤ length own
replies_within index own =
    let passing = filter (λ (x : Entry). x.tag.index == index) own in
    omega (
      arith,
      length-map passing (λ (x : Entry). x.reply),
      length-filter_both (λ (x : Entry). x.tag.index == index) (λ (x : Entry). not (x.tag.index == index)) (λ x. refl) own,
    )

own_small : (conn : ℕ) (es : List Entry) → AllByRecursion (λ (e : Entry). IsSmall e.reply) es → AllByRecursion (λ (e : Entry). IsSmall e.reply) (of_connection conn es)
own_small conn [] small = tt
own_small conn (e ∷ es) small = go (e.tag.conn == conn) (own_small conn es small.1)
  where
    go : (b : Bool) → AllByRecursion (λ (x : Entry). IsSmall x.reply) (of_connection conn es)
        → AllByRecursion (λ (x : Entry). IsSmall x.reply) (if b then e ∷ of_connection conn es else of_connection conn es)
    go true rest = (small.0, rest)
    go false rest = rest

all_small : (es : List Entry) → AllByRecursion IsEntry es → AllByRecursion FitsEntry es → AllByRecursion (λ (e : Entry). IsSmall e.reply) es
all_small [] are fit = tt
all_small (e ∷ es) are fit = (record { value = are.0.reply; fits = fit.0.reply }, all_small es are.1 fit.1)

-- the texts of commands, of which the first has this index
texts_few : (index : ℕ) (commands : List Command) (own : List Entry) → AllByRecursion IsCommand commands → AllByRecursion (λ (e : Entry). IsSmall e.reply) own → length own ≤ 1099511627776
    → length (concat (texts_from index commands own)) ≤ 300 * weigh commands + 2097152 * total (λ k. length (replies_at (index + k) own)) (length commands)
unfolding weigh
texts_few index [] own are small few = omega arith
texts_few index (command ∷ commands) own are small few =
    let replies = replies_at index own in
    let here = text_few command replies are.0 (replies_small index own small) (omega (arith, few, replies_within index own)) in
    let rest = texts_few (index + 1) commands own are.1 small few in
    let first = total-first (λ k. length (replies_at (index + k) own)) (length commands) in
    let none : length (replies_at (index + 0) own) ≡ length replies = ap (λ (n : ℕ). length (replies_at n own)) (let z : index + 0 ≡ index = omega arith in z) in
    let later = total-le (λ k. length (replies_at (index + 1 + k) own)) (λ k. length (replies_at (index + suc k) own)) (length commands) (λ k less.
    let on : index + 1 + k ≡ index + suc k = omega arith in
    let same = ap (λ (n : ℕ). length (replies_at n own)) on in
    omega (arith, same)) in
    omega (arith, length-append (text command replies) (concat (texts_from (index + 1) commands own)), here, rest, first, none, later)

-- ---- the sessions of a connection

module _ (conn : ℕ) (es : List Entry) where
  over_more : (front : List (List ℕ)) (stream : List ℕ) → length (commands_over (front ++ stream ∷ [])) ≡ length (commands_over front) + length (commands_of stream)
  over_more front stream =
      let parts = ap (λ (l : List Command). length l) (flat_map-append commands_of front (stream ∷ [])) in
      let last = ap (λ (l : List Command). length l) (append-nil (commands_of stream)) in
      omega (arith, parts, last, length-append (commands_over front) (commands_of stream ++ []))

  -- the outputs of sessions are the texts of their commands
  outputs_size : (streams front rest : List (List ℕ)) → streams ≡ front ++ rest
      → sum_by length (map (λ session. session_output conn session streams es) (range_with_len (length front) (length rest)))
      ≡ length (concat (texts_from (length (commands_over front)) (commands_over rest) (of_connection conn es)))
  outputs_size streams front [] whole = refl
  outputs_size streams front (stream ∷ rest) whole =
      let own = of_connection conn es in
      let at = length (commands_over front) in
      let before : take (length front) streams ≡ front = ap (λ (l : List (List ℕ)). take (length front) l) whole ∙ take-append_seam front (stream ∷ rest) in
      let this : slice_index_or streams (length front) [] ≡ stream = ap (λ (l : List (List ℕ)). slice_index_or l (length front) []) whole ∙ get_or-append_seam front stream rest [] in
      let first : length (session_output conn (length front) streams es) ≡ length (concat (texts_from at (commands_of stream) own)) =
      ap (λ (l : List (List ℕ)). length (concat (texts_from (length (commands_over l)) (commands_of (slice_index_or streams (length front) [])) own))) before
      ∙ ap (λ (l : List ℕ). length (concat (texts_from at (commands_of l) own))) this in
      let again = outputs_size streams (front ++ stream ∷ []) rest (whole ∙ sym (append_assoc front (stream ∷ []) rest)) in
      let on : length (front ++ stream ∷ []) ≡ length front + 1 = length-append front (stream ∷ []) in
      let range = ap (λ (n : ℕ). sum_by length (map (λ session. session_output conn session streams es) (range_with_len n (length rest)))) on in
      let index = ap (λ (n : ℕ). length (concat (texts_from n (commands_over rest) own))) (over_more front stream) in
      let split : length (concat (texts_from at (commands_of stream ++ commands_over rest) own)) ≡ length (concat (texts_from at (commands_of stream) own)) + length (concat (texts_from (at + length (commands_of stream)) (commands_over rest) own)) =
      ap (λ (l : List (List ℕ)). length (concat l)) (texts_from-append at (commands_of stream) (commands_over rest) own)
      ∙ ap (λ (l : List ℕ). length l) (concat-append (texts_from at (commands_of stream) own) (texts_from (at + length (commands_of stream)) (commands_over rest) own))
      ∙ length-append (concat (texts_from at (commands_of stream) own)) (concat (texts_from (at + length (commands_of stream)) (commands_over rest) own)) in
      let sum = sum_by-cons length (session_output conn (length front) streams es) (map (λ session. session_output conn session streams es) (range_with_len (length front + 1) (length rest))) in
      omega (arith, first, again, range, index, split, sum)

  record_sum : (sessions : List (List ℕ)) → sum_by (λ bytes. 17 + length bytes) sessions ≡ 17 * length sessions + sum_by length sessions
  record_sum [] = refl
  record_sum (bytes ∷ sessions) =
      let one = sum_by-cons (λ (l : List ℕ). 17 + length l) bytes sessions in
      let other = sum_by-cons length bytes sessions in
      omega (arith, one, other, record_sum sessions)

  -- the records of a connection's outputs
  records_few : (streams : List (List ℕ)) → AllByRecursion (λ (e : Entry). IsSmall e.reply) es → length (of_connection conn es) ≤ 256 * sum_by length streams → sum_by length streams ≤ 4294967295
      → sum_by (λ bytes. 17 + length bytes) (connection_outputs conn streams es) ≤ 17 * length streams + 536871212 * sum_by length streams
  records_few streams small few short =
      let own = of_connection conn es in
      let texts = texts_few 0 (commands_over streams) own (streams_within streams) (own_small conn es small) (omega (arith, few, short)) in
      omega (
        arith,
        few,
        texts,
        record_sum (connection_outputs conn streams es),
        length-map-range_with_len (λ session. session_output conn session streams es) 0 (length streams),
        outputs_size streams [] streams refl,
        streams_weigh streams,
        replies_counted 0 (length (commands_over streams)) own,
      )

-- ---- files

total-times : (f : ℕ → ℕ) (n : ℕ) → total (λ k. 256 * f k) n ≡ 256 * total f n
total-times f zero = refl
total-times f (suc n) = omega (arith, total-times f n)

total-both : (f g : ℕ → ℕ) (n : ℕ) → total (λ k. 17 * f k + 536871212 * g k) n ≡ 17 * total f n + 536871212 * total g n
total-both f g zero = refl
total-both f g (suc n) = omega (arith, total-both f g n)

counting : (hs : List Hold) → AllByRecursion IsHold hs → AllByRecursion (λ (h : Hold). 0 < h.count) hs
counting [] are = tt
counting (h ∷ hs) are = (are.0.some_commands, counting hs are.1)

module _ (shards version count : ℕ) (bytes : List ℕ) (records : List Record) (journal : Journal) (outputs : AllOutputs)
    (few : shards ≤ 256) (spells : Spells bytes version count records) (are : AreOfRun shards count records journal outputs) where
  abbrev kept : List (List (List ℕ))
  kept = with_records (no_bytes count) records

  -- the bytes of a connection's sessions
  abbrev bytes_of : ℕ → ℕ
  bytes_of conn = sum_by length (sessions_of kept conn)

  all_bytes : total bytes_of count ≤ 4294967295
  all_bytes =
      let size = streams_size count records in
      let sum = total-list (λ (sessions : List (List ℕ)). sum_by length sessions) [] kept in
      let same = ap (λ (n : ℕ). total bytes_of n) size in
      let short = spells.short in
      omega (arith, sum, same, short, streams_few bytes version count records spells)

  all_sessions : total (λ conn. length (sessions_of kept conn)) count ≤ count + 4294967295
  all_sessions =
      let size = streams_size count records in
      let sum = total-list (λ (sessions : List (List ℕ)). length sessions) [] kept in
      let same = ap (λ (n : ℕ). total (λ conn. length (sessions_of kept conn)) n) size in
      let short = spells.short in
      omega (arith, sum, same, short, sessions_few bytes version count records spells)

  weigh_few : (conn : ℕ) → conn < count → weigh (commands_in records conn) ≤ bytes_of conn
  weigh_few conn within =
      let held = ap (λ (l : List (List ℕ)). sum_by length l) (streams_held count conn records within) in
      omega (arith, held, streams_weigh (streams_in records conn))

  own_few : (conn : ℕ) → conn < count → length (of_connection conn journal.entries) ≤ 256 * bytes_of conn
  own_few conn within =
      let calls = ap (λ l. length l) (are.run.calls conn within) in
      let size = length-map (of_connection conn journal.entries) due_of in
      omega (arith, calls, size, due_few shards conn 0 (commands_in records conn) few, weigh_few conn within)

  entries_few : length journal.entries ≤ 256 * 4294967295
  entries_few =
      omega (
        arith,
        entries_counted count journal.entries are.run.connections,
        total-le (λ conn. length (of_connection conn journal.entries)) (λ conn. 256 * bytes_of conn) count own_few,
        total-times bytes_of count,
        all_bytes,
      )

  holds_few : AllByRecursion IsHold journal.holds → length journal.holds ≤ 4294967295
  holds_few lawful =
      omega (
        arith,
        holds_counted count journal.holds are.holds.connections (counting journal.holds lawful),
        total-le (λ conn. held_of conn journal.holds) bytes_of count (λ conn within.
            let is = are.holds.counts conn within in omega (arith, is, count_few (commands_in records conn), weigh_few conn within)),
        all_bytes,
      )

  -- the text of the journal is short
  pub journal_short : IsJournal journal → length (journal_bytes journal) < 2 ^ 63 - 1
  journal_short lawful = omega (arith, journal_few journal lawful.entries, entries_few, holds_few lawful.holds)

  -- so is the replies file
  pub replies_short : IsJournal journal → AllByRecursion FitsEntry journal.entries → length (replies_bytes outputs) < 2 ^ 63 - 1
  replies_short lawful fit =
      let most = spells.valid.few in
      let small = all_small journal.entries lawful.entries fit in
      let same = ap (λ (l : List (List (List ℕ))). sum_by (λ sessions. sum_by (λ bytes. 17 + length bytes) sessions) l) are.replies in
      let sum = total-map (λ (sessions : List (List ℕ)). sum_by (λ bytes. 17 + length bytes) sessions) (λ conn. connection_outputs conn (streams_in records conn) journal.entries) count in
      let each = total-le (λ conn. sum_by (λ bytes. 17 + length bytes) (connection_outputs conn (streams_in records conn) journal.entries)) (λ conn. 17 * length (sessions_of kept conn) + 536871212 * bytes_of conn) count (λ conn within.
      let held = streams_held count conn records within in
      let short = total-at bytes_of conn count within in
      let one = records_few conn journal.entries (sessions_of kept conn) small (own_few conn within) (omega (arith, short, all_bytes)) in
      let as_held = ap (λ (l : List (List ℕ)). sum_by (λ bytes. 17 + length bytes) (connection_outputs conn l journal.entries)) held in
      omega (arith, one, as_held)) in
      omega (arith, most, same, sum, each, total-both (λ conn. length (sessions_of kept conn)) bytes_of count, all_bytes, all_sessions, replies_few outputs)
