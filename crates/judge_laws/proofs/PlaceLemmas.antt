-- The session of a command that is numbered over all sessions of its connection.
use Rattle.std.specs.List.{slice_get, slice_index_or}
use Rattle.std.proofs.Common.{◌≡◌, ℕ, zero, suc, ◌+◌, ◌-◌, ◌<◌, ◌≤◌, List, [], ◌∷◌, ◌++◌, length, take, drop, map, refl, ap, sym, ◌∙◌, subst, append_assoc, arith}
use Rattle.std.proofs.lemmas.List.{length-append}
use mathlib.Core.Logic.{dite}
use native.Mathlib.Decide.{dec_lt}
use Rattle.mc_parse.specs.declared.command.Command.{Command}
use Rattle.zy_frame.specs.Cut.{commands_of}
use Rattle.zy_run.specs.Commands.{commands_over}
use Rattle.zy_run.specs.Output.{commands_before}
use Rattle.zy_check.proofs.ListLemmas.{get_append, get_behind}
use Rattle.zy_frame.specs.Frame.{command_of}
use Rattle.zy_frame.proofs.CutLaws.{frames_of_nil}

pub no_commands : commands_of [] ≡ []
no_commands = ap (map command_of) frames_of_nil

-- ---- the session of a command

-- the number of commands that are left after a session decides whether a command is of a later one
abbrev session_by : ℕ → (ℕ → ℕ) → ℕ
session_by zero later = 0
session_by (suc left) later = suc (later left)

-- the session of the command with this index
abbrev pub session_at : List (List ℕ) → ℕ → ℕ
session_at [] index = 0
session_at (stream ∷ streams) index = session_by (suc index - length (commands_of stream)) (session_at streams)

-- the command with this index is of this session
pub record IsIn (streams : List (List ℕ)) (session index : ℕ) : Type 0 where
  pub from : commands_before session streams ≤ index
  pub until : index < commands_before (session + 1) streams

-- the stream of a session; one that does not exist has no bytes
abbrev pub stream_at : List (List ℕ) → ℕ → List ℕ
stream_at streams session = slice_index_or streams session []

-- ---- how many commands come before a session

before_none : (streams : List (List ℕ)) → commands_before 0 streams ≡ 0
before_none streams = refl

before_more : (session : ℕ) (stream : List ℕ) (streams : List (List ℕ)) → commands_before (suc session) (stream ∷ streams) ≡ length (commands_of stream) + commands_before session streams
before_more session stream streams = length-append (commands_of stream) (commands_over (take session streams))

pub before_next : (streams : List (List ℕ)) (session : ℕ) → commands_before (session + 1) streams ≡ commands_before session streams + length (commands_of (stream_at streams session))
before_next [] session =
    let next : session + 1 ≡ suc session = omega arith in
    let one : commands_before (session + 1) [] ≡ 0 = ap (λ (n : ℕ). commands_before n []) next in
    let none : commands_before session [] ≡ 0 = nothing session in
    let empty = ap (λ (l : List Command). length l) no_commands in
    omega (arith, one, none, empty)
  where
    nothing : (n : ℕ) → commands_before n [] ≡ 0
    nothing zero = refl
    nothing (suc n) = refl
before_next (stream ∷ streams) zero =
    let here = before_more 0 stream streams in
    let none = before_none streams in
    let none_here = before_none (stream ∷ streams) in
    omega (arith, here, none, none_here)
before_next (stream ∷ streams) (suc session) =
    let next : suc session + 1 ≡ suc (session + 1) = omega arith in
    let on : commands_before (suc session + 1) (stream ∷ streams) ≡ commands_before (suc (session + 1)) (stream ∷ streams) = ap (λ (n : ℕ). commands_before n (stream ∷ streams)) next in
    let more = before_more (session + 1) stream streams in
    let here = before_more session stream streams in
    let rest = before_next streams session in
    omega (arith, on, more, here, rest)

pub before_rises : (streams : List (List ℕ)) (session later : ℕ) → session ≤ later → commands_before session streams ≤ commands_before later streams
before_rises streams zero later order = let none = before_none streams in omega (arith, none)
before_rises [] (suc session) later order = omega arith
before_rises (stream ∷ streams) (suc session) zero order = absurd (omega arith)
before_rises (stream ∷ streams) (suc session) (suc later) order =
    let here = before_more session stream streams in
    let more = before_more later stream streams in
    let rest = before_rises streams session later (omega arith) in
    omega (arith, here, more, rest)

pub before_few : (streams : List (List ℕ)) (session : ℕ) → commands_before session streams ≤ length (commands_over streams)
before_few streams zero = let none = before_none streams in omega (arith, none)
before_few [] (suc session) = omega arith
before_few (stream ∷ streams) (suc session) =
    let here = before_more session stream streams in
    let all = length-append (commands_of stream) (commands_over streams) in
    let rest = before_few streams session in
    omega (arith, here, all, rest)

-- ---- a command is of one session

pub placed : (streams : List (List ℕ)) (index : ℕ) → index < length (commands_over streams) → IsIn streams (session_at streams index) index
placed [] index within = absurd (omega arith)
placed (stream ∷ streams) index within = go (λ left low. placed streams left low) (suc index - length (commands_of stream)) refl
  where
    go : ((left : ℕ) → left < length (commands_over streams) → IsIn streams (session_at streams left) left) → (left : ℕ) → suc index - length (commands_of stream) ≡ left
        → IsIn (stream ∷ streams) (session_at (stream ∷ streams) index) index
    go more zero is = subst (λ (n : ℕ). IsIn (stream ∷ streams) (session_by n (session_at streams)) index) (sym is) (record {
      from = let none = before_none (stream ∷ streams) in omega (arith, none);
      until = let next = before_next (stream ∷ streams) 0 in let none = before_none (stream ∷ streams) in omega (arith, is, next, none);
    })
    go more (suc left) is =
        let all = length-append (commands_of stream) (commands_over streams) in
        let later = more left (omega (arith, is, all, within)) in
        subst (λ (n : ℕ). IsIn (stream ∷ streams) (session_by n (session_at streams)) index) (sym is) (record {
          from = let low = later.from in let here = before_more (session_at streams left) stream streams in omega (arith, is, low, here);
          until =
              let high = later.until in
              let next : suc (session_at streams left) + 1 ≡ suc (session_at streams left + 1) = omega arith in
              let on : commands_before (suc (session_at streams left) + 1) (stream ∷ streams) ≡ commands_before (suc (session_at streams left + 1)) (stream ∷ streams) = ap (λ (n : ℕ). commands_before n (stream ∷ streams)) next in
              let here = before_more (session_at streams left + 1) stream streams in
              omega (arith, is, high, here, on);
        })

pub one_place : (streams : List (List ℕ)) (session other index : ℕ) → IsIn streams session index → IsIn streams other index → session ≡ other
one_place streams session other index one two =
    let from = one.from in
    let until = one.until in
    let begins = two.from in
    let ends = two.until in
    dite (dec_lt session other)
    (λ below. let order = before_rises streams (session + 1) other (omega arith) in absurd (omega (arith, order, until, begins)))
    (λ not_below. dite (dec_lt other session)
    (λ above. let order = before_rises streams (other + 1) session (omega arith) in absurd (omega (arith, order, ends, from)))
    (λ level. omega arith))

-- a command within the commands of a session is of that session
pub is_session : (streams : List (List ℕ)) (session index : ℕ) → IsIn streams session index → session_at streams index ≡ session
is_session streams session index is =
    let few = before_few streams (session + 1) in
    let until = is.until in
    one_place streams (session_at streams index) session index (placed streams index (omega (arith, few, until))) is

-- ---- the commands of a session

-- those before it, its own, and those after it
pub commands_split : (streams : List (List ℕ)) (session : ℕ)
    → commands_over streams ≡ commands_over (take session streams) ++ (commands_of (stream_at streams session) ++ commands_over (drop (suc session) streams))
commands_split [] zero = ap (λ (l : List Command). l ++ []) (sym no_commands)
commands_split [] (suc session) = ap (λ (l : List Command). l ++ []) (sym no_commands)
commands_split (stream ∷ streams) zero = refl
commands_split (stream ∷ streams) (suc session) =
    ap (λ (l : List Command). commands_of stream ++ l) (commands_split streams session)
    ∙ sym (append_assoc (commands_of stream) (commands_over (take session streams)) (commands_of (stream_at streams session) ++ commands_over (drop (suc session) streams)))

-- a command of a session, among all of its connection
pub command_there : (streams : List (List ℕ)) (session index : ℕ) → index < length (commands_of (stream_at streams session))
    → slice_get (commands_over streams) (commands_before session streams + index) ≡ slice_get (commands_of (stream_at streams session)) index
command_there streams session index within =
    let own = commands_of (stream_at streams session) in
    let rest = commands_over (drop (suc session) streams) in
    ap (λ (l : List Command). slice_get l (commands_before session streams + index)) (commands_split streams session)
    ∙ get_behind (commands_over (take session streams)) (own ++ rest) index ∙ get_append own rest index within
