-- The texts of a connection's commands, cut at the ends of its sessions, are their outputs.
use Rattle.std.specs.List.{concat, slice_index_or}
use Rattle.std.proofs.Common.{◌≡◌, ℕ, zero, suc, ◌+◌, ◌-◌, ◌<◌, ◌≤◌, List, [], ◌∷◌, ◌++◌, length, take, drop, refl, sym, ap, ◌∙◌, arith}
use Rattle.std.proofs.lemmas.List.{append-nil, append_assoc, length-append, length-map, take_at, drop_at, drop-drop, take-append-drop}
use Rattle.std.proofs.lemmas.List.FromFn.{fill_by_all}
use Rattle.mc_calls.specs.declared.entry.Entry.{Entry}
use Rattle.mc_calls.specs.Order.{of_connection}
use Rattle.mc_parse.specs.declared.command.Command.{Command}
use Rattle.mc_reply.specs.Texts.{texts_from, texts_of}
use Rattle.mc_reply.proofs.TextLemmas.{texts_from-append, length-texts_from}
use Rattle.zy_frame.specs.Frame.{command_of}
use Rattle.zy_frame.specs.Cut.{frames_of, commands_of}
use Rattle.zy_run.specs.Commands.{commands_over}
use Rattle.zy_run.specs.Output.{commands_before, session_output, connection_outputs}
use Rattle.zy_finish.specs.Left.{ends_after, ends_of, bytes_between, cut_from, session_texts}

-- there is a command for each frame
counted : (stream : List ℕ) → length (frames_of stream) ≡ length (commands_of stream)
counted stream = sym (length-map (frames_of stream) command_of)

-- the outputs of sessions, one after another, where the first session has this number of commands
-- before it
outputs_from : ℕ → List (List ℕ) → List Entry → List (List ℕ)
outputs_from before [] calls = []
outputs_from before (stream ∷ streams) calls =
    concat (texts_from before (commands_of stream) calls) ∷ outputs_from (before + length (commands_of stream)) streams calls

-- ---- these are the outputs

length-outputs_from : (before : ℕ) (streams : List (List ℕ)) (calls : List Entry) → length (outputs_from before streams calls) ≡ length streams
unfolding outputs_from
length-outputs_from before [] calls = refl
length-outputs_from before (stream ∷ streams) calls = ap suc (length-outputs_from (before + length (commands_of stream)) streams calls)

outputs_from-at : (before k : ℕ) (streams : List (List ℕ)) (calls : List Entry) → k < length streams
    → slice_index_or (outputs_from before streams calls) k [] ≡ concat (texts_from (before + commands_before k streams) (commands_of (slice_index_or streams k [])) calls)
unfolding outputs_from
outputs_from-at before k [] calls within = absurd (omega arith)
outputs_from-at before zero (stream ∷ streams) calls within =
    let none : before ≡ before + length {A = Command} [] = omega arith in ap (λ (n : ℕ). concat (texts_from n (commands_of stream) calls)) none
outputs_from-at before (suc k) (stream ∷ streams) calls within =
    let size = length-append (commands_of stream) (commands_over (take k streams)) in
    let number : before + length (commands_of stream) + commands_before k streams ≡ before + commands_before (suc k) (stream ∷ streams) = omega arith in
    outputs_from-at (before + length (commands_of stream)) k streams calls (omega arith)
    ∙ ap (λ (n : ℕ). concat (texts_from n (commands_of (slice_index_or streams k [])) calls)) number

are_outputs : (conn : ℕ) (streams : List (List ℕ)) (es : List Entry) → outputs_from 0 streams (of_connection conn es) ≡ connection_outputs conn streams es
are_outputs conn streams es =
    fill_by_all (λ session. session_output conn session streams es) (outputs_from 0 streams (of_connection conn es)) (length streams) []
    (length-outputs_from 0 streams (of_connection conn es))
    (λ k within.
    let number : 0 + commands_before k streams ≡ commands_before k streams = omega arith in
    outputs_from-at 0 k streams (of_connection conn es) within ∙ ap (λ (n : ℕ). concat (texts_from n (commands_of (slice_index_or streams k [])) (of_connection conn es))) number)

-- ---- and so are the texts, where they are cut

cut_outputs : (start : ℕ) (stream : List ℕ) (streams : List (List ℕ)) (calls : List Entry) (texts : List (List ℕ))
    → drop start texts ≡ texts_from start (commands_over (stream ∷ streams)) calls → cut_from start (ends_after start (stream ∷ streams)) texts ≡ outputs_from start (stream ∷ streams) calls
unfolding outputs_from
cut_outputs start stream [] calls texts are =
    ap (λ (rest : List (List ℕ)). concat rest ∷ []) (are ∙ ap (λ (commands : List Command). texts_from start commands calls) (append-nil (commands_of stream)))
cut_outputs start stream (next ∷ streams) calls texts are =
    let size = length (commands_of stream) in
    let here = texts_from start (commands_of stream) calls in
    let behind = texts_from (start + size) (commands_over (next ∷ streams)) calls in
    let long : length here ≡ size = length-texts_from start (commands_of stream) calls in
    let parts : drop start texts ≡ here ++ behind = are ∙ texts_from-append start (commands_of stream) (commands_over (next ∷ streams)) calls in
    let count : start + size - start ≡ size = omega arith in
    let first : bytes_between start (start + size) texts ≡ concat here =
    (λ i. concat (take (count i) (parts i))) ∙ ap concat (take_at here behind size long) in
    let rest : drop (start + size) texts ≡ behind = sym (drop-drop size start texts) ∙ ap (drop size) parts ∙ drop_at here behind size long in
    ap (λ (bytes : List ℕ). bytes ∷ cut_from (start + size) (ends_after (start + size) (next ∷ streams)) texts) first
    ∙ ap (λ (l : List (List ℕ)). concat here ∷ l) (cut_outputs (start + size) next streams calls texts rest)

pub cut_is_outputs : (conn : ℕ) (streams : List (List ℕ)) (es : List Entry) → 0 < length streams
    → session_texts (ends_of streams) (texts_of (commands_over streams) (of_connection conn es)) ≡ connection_outputs conn streams es
cut_is_outputs conn [] es some = absurd (omega arith)
cut_is_outputs conn (stream ∷ streams) es some =
    cut_outputs 0 stream streams (of_connection conn es) (texts_of (commands_over (stream ∷ streams)) (of_connection conn es)) refl ∙ are_outputs conn (stream ∷ streams) es

-- ---- the same ends, as they are counted while sessions close

-- a function that counts the frames at the end of each of several streams gives the ends of the
-- sessions that have these streams, where one further session is open
pub ends_counted : (ends : ℕ → List (List ℕ) → List ℕ) → ((before : ℕ) → ends before [] ≡ [])
    → ((before : ℕ) (stream : List ℕ) (streams : List (List ℕ)) → ends before (stream ∷ streams) ≡ (before + length (frames_of stream)) ∷ ends (before + length (frames_of stream)) streams)
    → (before : ℕ) (closed : List (List ℕ)) (current : List ℕ) → ends before closed ≡ ends_after before (closed ++ current ∷ [])
ends_counted ends none more before [] current = none before
ends_counted ends none more before (stream ∷ []) current =
    more before stream [] ∙ (λ i. (before + counted stream i) ∷ none (before + length (frames_of stream)) i)
ends_counted ends none more before (stream ∷ next ∷ closed) current =
    more before stream (next ∷ closed)
    ∙ (λ i. (before + counted stream i) ∷ ends (before + counted stream i) (next ∷ closed))
    ∙ ap (λ (l : List ℕ). (before + length (commands_of stream)) ∷ l) (ends_counted ends none more (before + length (commands_of stream)) (next ∷ closed) current)

-- ---- bytes

concat-append : (xs ys : List (List ℕ)) → concat (xs ++ ys) ≡ concat xs ++ concat ys
concat-append [] ys = refl
concat-append (x ∷ xs) ys = ap (λ (l : List ℕ). x ++ l) (concat-append xs ys) ∙ sym (append_assoc x (concat xs) (concat ys))

take_further : (start more : ℕ) (texts : List (List ℕ)) → take (start + more) texts ≡ take start texts ++ take more (drop start texts)
take_further zero more texts = let none : 0 + more ≡ more = omega arith in ap (λ (n : ℕ). take n texts) none
take_further (suc start) more [] = take_none (suc start + more) ∙ sym (take_none more)
  where
    take_none : (n : ℕ) → take {A = List ℕ} n [] ≡ []
    take_none zero = refl
    take_none (suc n) = refl
take_further (suc start) more (text ∷ texts) =
    let on : suc start + more ≡ suc (start + more) = omega arith in
    ap (λ (n : ℕ). take n (text ∷ texts)) on ∙ ap (λ (l : List (List ℕ)). text ∷ l) (take_further start more texts)

pub bytes_up_to : (start stop : ℕ) (texts : List (List ℕ)) → start ≤ stop → concat (take stop texts) ≡ concat (take start texts) ++ bytes_between start stop texts
bytes_up_to start stop texts rising =
    let whole : stop ≡ start + (stop - start) = omega arith in
    ap (λ (n : ℕ). concat (take n texts)) whole ∙ ap concat (take_further start (stop - start) texts) ∙ concat-append (take start texts) (take (stop - start) (drop start texts))

pub bytes_behind : (start : ℕ) (texts : List (List ℕ)) → concat texts ≡ concat (take start texts) ++ concat (drop start texts)
bytes_behind start texts = ap concat (sym (take-append-drop start texts)) ∙ concat-append (take start texts) (drop start texts)
