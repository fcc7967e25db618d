-- The numbers of sessions, one after another.
use mathlib.Core.Logic.{dite}
use native.Mathlib.Decide.{dec_lt}
use Rattle.std.proofs.Common.{◌≡◌, ℕ, suc, ◌+◌, ◌<◌, List, length, Option, None, Some, IfSome, sym, ap, ◌∙◌, subst, arith}
use Rattle.zy_times.specs.InTime.{total_below}
use Rattle.zy_verdict.specs.Numbers.{ended_among}
use Rattle.zy_sessions.specs.declared.session.Session.{Session}
use Rattle.zy_sessions.specs.declared.sessions.Sessions.{Sessions}
use Rattle.zy_sessions.specs.Sessions.{session_at}
use Rattle.zy_explain.specs.declared.numbers.Numbers.{Numbers}
use Rattle.zy_explain.specs.declared.track.Track.{Track}
use Rattle.zy_explain.specs.declared.row.Row.{Row}
use Rattle.zy_explain.specs.Following.{output_in, track_at, sessions_on}
use Rattle.zy_explain.specs.Ending.{EndsRight, AddsSession, AllEndRight, AreLineNumbers, AreNumbers, commands_in, ended_in}

total_on : (of : ℕ → ℕ) (n : ℕ) → total_below of (n + 1) ≡ total_below of n + of n
total_on of n = let on : n + 1 ≡ suc n = omega arith in ap (total_below of) on

module _ (sessions : Sessions) (outputs : List (List (List ℕ))) (rows : List Row) where
  -- the numbers of one session were added
  pub adds_by : (conn session : ℕ) (before own : Numbers) (s : Session) (t : Track) → session_at sessions conn session ≡ Some s → track_at rows conn session ≡ Some t → EndsRight s (output_in outputs conn session) t
      → own.commands ≡ length s.commands.items → own.ended ≡ ended_among (length s.marks.items) t.answered.items
      → (r : Option Numbers) → IfSome r (λ n. (n.commands ≡ before.commands + own.commands) × (n.ended ≡ before.ended + own.ended)) → IfSome r (AddsSession sessions outputs rows conn session before)
  adds_by conn session before own s t is has right commands ended None adds = tt
  adds_by conn session before own s t is has right commands ended (Some n) adds = record {
    s = s;
    t = t;
    is = is;
    has = has;
    right = right;
    commands = adds.0 ∙ ap (λ (k : ℕ). before.commands + k) commands;
    ended = adds.1 ∙ ap (λ (k : ℕ). before.ended + k) ended;
  }

  -- one session more of a connection
  module _ (conn number : ℕ) (n m : Numbers) (are : AreLineNumbers sessions outputs rows conn number n) (adds : AddsSession sessions outputs rows conn number n m) where
    right_more : AllEndRight sessions outputs rows conn (number + 1)
    right_more session s t below is has = dite (dec_lt session number)
        (λ lower. are.right session s t lower is has)
        (λ last.
        let same : session ≡ number = omega (arith, below, last) in
        let both : Some s ≡ Some adds.s = sym is ∙ ap (session_at sessions conn) same ∙ adds.is in
        let one : adds.s ≡ s = cc in
        let tracks : Some t ≡ Some adds.t = sym has ∙ ap (track_at rows conn) same ∙ adds.has in
        let two : adds.t ≡ t = cc in
        subst (λ (k : ℕ). EndsRight s (output_in outputs conn k) t) (sym same)
        (subst (λ (v : Session). EndsRight v (output_in outputs conn number) t) one (subst (λ (v : Track). EndsRight adds.s (output_in outputs conn number) v) two adds.right)))

    pub line_more : AreLineNumbers sessions outputs rows conn (number + 1) m
    line_more = record {
      right = right_more;
      commands =
          adds.commands ∙ ap (λ (k : ℕ). k + commands_in (Some adds.s)) are.commands
          ∙ ap (λ (o : Option Session). total_below (λ session. commands_in (session_at sessions conn session)) number + commands_in o) (sym adds.is)
          ∙ sym (total_on (λ session. commands_in (session_at sessions conn session)) number);
      ended =
          adds.ended ∙ ap (λ (k : ℕ). k + ended_in (Some adds.s) (Some adds.t)) are.ended
          ∙ ap (λ (o : Option Session). total_below (λ session. ended_in (session_at sessions conn session) (track_at rows conn session)) number + ended_in o (Some adds.t)) (sym adds.is)
          ∙ ap (λ (o : Option Track). total_below (λ session. ended_in (session_at sessions conn session) (track_at rows conn session)) number + ended_in (session_at sessions conn number) o) (sym adds.has)
          ∙ sym (total_on (λ session. ended_in (session_at sessions conn session) (track_at rows conn session)) number);
    }

  -- one connection more
  module _ (conn : ℕ) (n line m : Numbers) (are : AreNumbers sessions outputs rows conn n) (own : AreLineNumbers sessions outputs rows conn (sessions_on sessions conn) line)
      (adds : (m.commands ≡ n.commands + line.commands) × (m.ended ≡ n.ended + line.ended)) where
    right_lines : (c : ℕ) → c < conn + 1 → AllEndRight sessions outputs rows c (sessions_on sessions c)
    right_lines c below = dite (dec_lt c conn)
        (λ lower. are.right c lower)
        (λ last.
        let same : c ≡ conn = omega (arith, below, last) in
        subst (λ (k : ℕ). AllEndRight sessions outputs rows k (sessions_on sessions k)) (sym same) own.right)

    pub all_more : AreNumbers sessions outputs rows (conn + 1) m
    all_more = record {
      right = right_lines;
      commands =
          let f : ℕ → ℕ = λ conn. total_below (λ session. commands_in (session_at sessions conn session)) (sessions_on sessions conn) in
          adds.0 ∙ ap (λ (k : ℕ). k + line.commands) are.commands ∙ ap (λ (k : ℕ). total_below f conn + k) own.commands ∙ sym (total_on f conn);
      ended =
          let f : ℕ → ℕ = λ conn. total_below (λ session. ended_in (session_at sessions conn session) (track_at rows conn session)) (sessions_on sessions conn) in
          adds.1 ∙ ap (λ (k : ℕ). k + line.ended) are.ended ∙ ap (λ (k : ℕ). total_below f conn + k) own.ended ∙ sym (total_on f conn);
    }
