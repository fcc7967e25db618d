-- The calls of a command, one after another.
use Rattle.std.proofs.Common.{◌≡◌, ◌⊎◌, inl, inr, ℕ, zero, suc, ◌+◌, ◌≤◌, Bool, true, List, [], ◌∷◌, ◌++◌, length, take, map, Some, None, Option, refl, sym, ap, ◌∙◌, subst, append_assoc, append-nil, arith}
use Rattle.std.specs.List.{slice_get}
use Rattle.std.proofs.lemmas.List.{map-append, take_all, length-take-le}
use Rattle.std.proofs.lemmas.Option.{slice_get_within}
use Rattle.std.proofs.lemmas.List.Elements.{All-nil, All-cons, All-append}
use Rattle.mc_allows.specs.declared.call_name.CallName.{CallName}
use Rattle.mc_allows.specs.declared.said.Said.{Said}
use Rattle.mc_allows.specs.declared.shown.Shown.{Shown}
use Rattle.mc_allows.specs.Needs.{Suits}
use Rattle.mc_allows.specs.Allows.{may_fail_quietly}
use Rattle.mc_answers.specs.Answer.{IsAnswer}
use Rattle.mc_answers.specs.Output.{FitsText}
use Rattle.mc_answers.specs.Said.{said_calls}
use Rattle.mc_parse.specs.Calls.{calls_of}
use Rattle.mc_parse.specs.Deed.{says_of, is_unsaid}
use Rattle.mc_parse.specs.declared.command.Command.{Command}
use Rattle.mc_parse.specs.declared.command.Command.TheVariants.{Store, Cas, Get, Delete, Count, Version, Stats, Verbosity, Flush, Fault, Meta}
use Rattle.mc_parse.specs.declared.shard_call.ShardCall.{ShardCall}
use Rattle.mc_shown.specs.declared.part.Part.{Part}
use Rattle.mc_shown.specs.Parts.{AreSuited}
use Rattle.zy_check.proofs.ListLemmas.{take_one}
use Rattle.zy_refute.specs.declared.observed.Observed.{Observed}
use Rattle.zy_verdict.specs.Recorded.{Recorded, session_commands}
use Rattle.zy_verdict.specs.Entries.{NamedCall, name_at, named_parts}
use Rattle.zy_verdict.specs.Explained.{OutputCuts, AreCuts}
use Rattle.zy_verdict.specs.Course.{IsSure}
use Rattle.zy_observed.specs.Shown.{IsShown, MayBeSaid, named_of}
use Rattle.zy_outputs.specs.declared.rules.Rules.{Rules}
use Rattle.zy_outputs.specs.declared.seen.Seen.{Seen}
use Rattle.zy_outputs.specs.Adding.{observed_by, IsOneSeen, Obeys, IsSeen, EachFits, AddsShown, AddsParts, AddsCalls}
use Rattle.zy_outputs.specs.Showing.{MaySuit}

-- ---- lists of calls

pub adds_none : (r : Recorded) (calls : List Observed) → AddsShown r calls calls []
adds_none r calls = record { more = []; is = sym (append-nil calls); names = refl; each = All-nil (IsShown r) }

pub adds_on : (r : Recorded) (old mid new : List Observed) (named more : List NamedCall) → AddsShown r old mid named → AddsShown r mid new more → AddsShown r old new (named ++ more)
adds_on r old mid new named more one two = record {
  more = one.more ++ two.more;
  is = two.is ∙ ap (λ (l : List Observed). l ++ two.more) one.is ∙ append_assoc old one.more two.more;
  names = map-append named_of one.more two.more ∙ ap (λ (l : List NamedCall). l ++ map named_of two.more) one.names ∙ ap (λ (l : List NamedCall). named ++ l) two.names;
  each = All-append (IsShown r) one.more two.more one.each two.each;
}

-- ---- one call

module _ (r : Recorded) (rules : Rules) (obeys : Obeys rules r) (conn session index part : ℕ) (command : Command) (seen : Seen) (s : IsSeen r (name_at conn session index part) command seen)
    (parts : List Part) (suited : EachFits r (name_at conn session index part) command (AreSuited parts)) (call : ShardCall) (here : slice_get (said_calls r.shards command) part ≡ Some call)
    (shown : Shown) (suits : MaySuit parts part (is_unsaid (says_of command)) rules.forget call.call shown) (unique : Option ℕ) where
  -- the command of a call is this one
  same_command : (own : Command) → slice_get (session_commands r conn session) index ≡ Some own → own ≡ command
  same_command own is = let e = sym is ∙ s.is in cc

  -- whatever may have been said suits what is shown
  said_suits : (cuts : OutputCuts) → AreCuts r cuts → (said : Said) → MayBeSaid r cuts (observed_by (name_at conn session index part) call shown unique seen) said → Suits shown said
  said_suits cuts cut said may =
      let belongs = may.belongs in
      let same = same_command may.command belongs.is in
      let fits = subst (λ (own : Command). FitsText (cuts conn session) index own may.saids) same may.fits in
      suits may.saids said (suited cuts cut may.saids fits) may.part
      (λ failed quiet. subst (λ (forget : Bool). may_fail_quietly forget call.call ≡ true) obeys.forget (may.failure failed (record { command = command; is = s.is; quiet = quiet })))

  pub call_shown : IsShown r (observed_by (name_at conn session index part) call shown unique seen)
  call_shown = record {
    belongs = record { command = command; is = record { is = s.is; part = here } };
    sure = s.sure;
    sent = s.sent;
    ended = s.ended;
    shown = said_suits;
  }

-- ---- the calls of a command

pub past_end : {A : Type 0} (xs : List A) (i : ℕ) → slice_get xs i ≡ None → length xs ≤ i
past_end [] i none = omega arith
past_end (x ∷ xs) zero none = absurd (cc)
past_end (x ∷ xs) (suc i) none = let rest = past_end xs i none in omega (arith, rest)

module _ (conn session index : ℕ) where
  -- the names of the calls of a command, with one more
  pub parts_more : (part : ℕ) (calls : List ShardCall) (call : ShardCall)
      → named_parts conn session index part (calls ++ call ∷ []) ≡ named_parts conn session index part calls ++ record { name = name_at conn session index (part + length calls); call = call } ∷ []
  parts_more part [] call = let at : part ≡ part + length {A = ShardCall} [] = omega arith in ap (λ (p : ℕ). record { name = name_at conn session index p; call = call } ∷ []) at
  parts_more part (first ∷ calls) call =
      let at : part + 1 + length calls ≡ part + length (first ∷ calls) = omega arith in
      ap (λ (more : List NamedCall). record { name = name_at conn session index part; call = first } ∷ more)
      (parts_more (part + 1) calls call ∙ ap (λ (p : ℕ). named_parts conn session index (part + 1) calls ++ record { name = name_at conn session index p; call = call } ∷ []) at)

-- each part of a sure command is sure
sure_of_part : (r : Recorded) (cuts : OutputCuts) (name : CallName) (part : ℕ) → IsSure r cuts name → IsSure r cuts (name_at name.conn name.session name.index part)
sure_of_part r cuts name part (inl ended) = inl ended
sure_of_part r cuts name part (inr before) = inr (record { index = before.index; from = before.from; answered = before.answered })

-- the calls of a command before this part are added
pub record AddsTo (rules : Rules) (name : CallName) (command : Command) (parts : List Part) (seen : Seen) (old : List Observed) (part : ℕ) (left : List Part) (new : List Observed) : Type 0 where
  pub kept : (saids : List Said) → AreSuited parts saids → AreSuited left saids
  pub adds : (r : Recorded) → Obeys rules r → IsSeen r name command seen → EachFits r name command (AreSuited parts)
      → AddsShown r old new (named_parts name.conn name.session name.index 0 (take part (said_calls r.shards command)))

pub adds_nothing : (rules : Rules) (name : CallName) (command : Command) (parts : List Part) (seen : Seen) (calls : List Observed) → AddsTo rules name command parts seen calls 0 parts calls
adds_nothing rules name command parts seen calls = record { kept = λ saids suited. suited; adds = λ r obeys s suited. adds_none r calls }

-- a command that makes no tallies
said_all : (shards : ℕ) (command : Command) → (command ≡ Stats → ⊥) → said_calls shards command ≡ calls_of shards command
said_all shards (Store verb key flags value quiet) other = refl
said_all shards (Cas key flags unique value quiet) other = refl
said_all shards (Get keys unique) other = refl
said_all shards (Delete key quiet) other = refl
said_all shards (Count key up amount quiet) other = refl
said_all shards Version other = refl
said_all shards Stats other = absurd (other refl)
said_all shards (Verbosity quiet) other = refl
said_all shards (Flush quiet) other = refl
said_all shards (Fault line quiet) other = refl
said_all shards (Meta meta) other = refl

module _ (rules : Rules) (name : CallName) (command : Command) (parts : List Part) (seen : Seen) (old : List Observed) (part : ℕ) (left : List Part) (now : List Observed)
    (other : command ≡ Stats → ⊥) (a : AddsTo rules name command parts seen old part left now) where
  -- one call more
  pub adds_one : (call : ShardCall) (shown : Shown) (after : List Part) (new : List Observed) → Some call ≡ slice_get (calls_of rules.shards command) part
      → ((saids : List Said) → AreSuited left saids → AreSuited after saids) → MaySuit left part (is_unsaid (says_of command)) rules.forget call.call shown
      → IsOneSeen (name_at name.conn name.session name.index part) call shown seen now new → AddsTo rules name command parts seen old (part + 1) after new
  adds_one call shown after new is kept suits one = record {
    kept = λ saids suited. kept saids (a.kept saids suited);
    adds = λ r obeys s suited.
        let here : slice_get (said_calls r.shards command) part ≡ Some call = ap (λ (l : List ShardCall). slice_get l part) (said_all r.shards command other) ∙ ap (λ (n : ℕ). slice_get (calls_of n command) part) obeys.shards ∙ sym is in
        let last : AddsShown r now new (record { name = name_at name.conn name.session name.index part; call = call } ∷ []) = record {
          more = observed_by (name_at name.conn name.session name.index part) call shown one.unique seen ∷ [];
          is = one.is;
          names = refl;
          each = All-cons (IsShown r) (observed_by (name_at name.conn name.session name.index part) call shown one.unique seen) []
              (call_shown r rules obeys name.conn name.session name.index part command seen (record { is = s.is; sure = λ yes cuts cut. sure_of_part r cuts name part (s.sure yes cuts cut); sent = s.sent; ended = s.ended }) left (λ cuts cut saids fits. a.kept saids (suited cuts cut saids fits)) call here shown suits one.unique)
              (All-nil (IsShown r));
        } in
        let within = slice_get_within (said_calls r.shards command) part call here in
        let taken : length (take part (said_calls r.shards command)) ≡ part = length-take-le part (said_calls r.shards command) (omega (arith, within)) in
        let long : 0 + length (take part (said_calls r.shards command)) ≡ part = omega (arith, taken) in
        let names : named_parts name.conn name.session name.index 0 (take (part + 1) (said_calls r.shards command))
        ≡ named_parts name.conn name.session name.index 0 (take part (said_calls r.shards command)) ++ record { name = name_at name.conn name.session name.index part; call = call } ∷ [] =
        ap (named_parts name.conn name.session name.index 0) (take_one (said_calls r.shards command) part call here)
        ∙ parts_more name.conn name.session name.index 0 (take part (said_calls r.shards command)) call
        ∙ ap (λ (p : ℕ). named_parts name.conn name.session name.index 0 (take part (said_calls r.shards command)) ++ record { name = name_at name.conn name.session name.index p; call = call } ∷ []) long in
        subst (AddsShown r old new) (sym names)
        (adds_on r old now new (named_parts name.conn name.session name.index 0 (take part (said_calls r.shards command))) (record { name = name_at name.conn name.session name.index part; call = call } ∷ []) (a.adds r obeys s suited) last);
  }

  -- no call is left
  pub adds_all : None ≡ slice_get (calls_of rules.shards command) part → AddsParts rules name command parts seen old now
  adds_all none r obeys s suited =
      let here : slice_get (said_calls r.shards command) part ≡ None = ap (λ (l : List ShardCall). slice_get l part) (said_all r.shards command other) ∙ ap (λ (n : ℕ). slice_get (calls_of n command) part) obeys.shards ∙ sym none in
      let past : length (said_calls r.shards command) ≤ part = past_end (said_calls r.shards command) part here in
      subst (λ (l : List ShardCall). AddsShown r old now (named_parts name.conn name.session name.index 0 l)) (take_all part (said_calls r.shards command) past) (a.adds r obeys s suited)

-- ---- a whole command

-- a command that asks for counts
pub counts_add_none : (rules : Rules) (name : CallName) (command : Command) (text : List ℕ) (seen : Seen) (calls : List Observed) → command ≡ Stats → AddsCalls rules name command text seen calls calls
counts_add_none rules name command text seen calls is r obeys s fits =
    let none : said_calls r.shards command ≡ [] = ap (said_calls r.shards) is in
    subst (λ (l : List ShardCall). AddsShown r calls calls (named_parts name.conn name.session name.index 0 l)) (sym none) (adds_none r calls)

-- what is shown of the bytes is shown of what fits them
pub parts_add_calls : (rules : Rules) (name : CallName) (command : Command) (text : List ℕ) (parts : List Part) (seen : Seen) (old new : List Observed)
    → ((saids : List Said) → (text ≡ []) ⊎ IsAnswer command saids text → AreSuited parts saids) → AddsParts rules name command parts seen old new → AddsCalls rules name command text seen old new
parts_add_calls rules name command text parts seen old new suits adds r obeys s fits = adds r obeys s (λ cuts cut saids fit. suits saids (fits cuts cut saids fit))
