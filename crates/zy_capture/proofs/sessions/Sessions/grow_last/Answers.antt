use Rattle.std.proofs.Common.{◌≡◌, sym, ◌∙◌, ap, ◌++◌, ◌∷◌, [], List, ℕ}
use Rattle.std.specs.Prelude.{OnOk, Result, Ok, Err, ⊤}
use Rattle.zy_capture.specs.Streams.{last_grown}
use Rattle.zy_capture.proofs.StreamLemmas.{last_grown-append}
use Rattle.zy_capture.proofs.sessions.Sessions.grow_last.Goals as goal

grew : {E : Type 0} (result : Result ⊤ E) (before : List (List ℕ)) (old new bytes : List ℕ) → OnOk result (new ≡ old ++ bytes) → OnOk result (before ++ new ∷ [] ≡ last_grown (before ++ old ∷ []) bytes)
grew (Ok u) before old new bytes is = ap (λ (l : List ℕ). before ++ l ∷ []) is ∙ sym (last_grown-append before old bytes)
grew (Err e) before old new bytes is = tt

pub returns-clause-ok : goal.returns-clause-ok
returns-clause-ok c = rw (← c.self.view_is) (grew c.append.result c.self.inside.before.items c.self.inside.last c.append.new.self c.args.bytes.now c.append.ensures.ok)
