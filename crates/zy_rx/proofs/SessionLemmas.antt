-- What a connection received after one more item.
use Rattle.std.proofs.Common.{◌≡◌, ℕ, List, [], ◌∷◌, ◌++◌}
use Rattle.zy_rx.specs.declared.rx.Rx.{Rx}
use Rattle.zy_rx.specs.Session.{Sessions, takes_in, sessions_from}

pub sessions-push : (conn : ℕ) (s : Sessions) (items : List Rx) (item : Rx) → sessions_from conn s (items ++ item ∷ []) ≡ takes_in conn (sessions_from conn s items) item
sessions-push conn s [] item = λ i. takes_in conn s item
sessions-push conn s (x ∷ xs) item = sessions-push conn (takes_in conn s x) xs item
