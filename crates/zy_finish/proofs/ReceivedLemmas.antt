-- What a connection receives is what the capture has for it.
use Rattle.std.specs.Prelude.{◌==◌, if◌then◌else◌, filter}
use Rattle.std.specs.List.{slice_set}
use Rattle.std.proofs.Common.{◌≡◌, inl, inr, ℕ, ◌+◌, ◌<◌, List, [], ◌∷◌, ◌++◌, length, map, Bool, true, false, cond}
use Rattle.std.proofs.Common.{refl, sym, ap, subst, ◌∙◌, eq-eqb, arith}
use Rattle.std.proofs.lemmas.List.{length-set, get_or-set_same, get_or-set_other, length-replicate, get_or-replicate}
use Rattle.std.proofs.lemmas.Bool.Decides.{eqb_tells}
use Rattle.zy_capture.specs.declared.record.Record.{Record}
use Rattle.zy_capture.specs.declared.record.Record.TheVariants as Kinds
use Rattle.zy_capture.specs.Streams.{sessions_of as sessions_at, no_bytes, last_grown, grown, closed, with_record}
use Rattle.zy_capture.specs.Streams.{with_records}
use Rattle.zy_capture.proofs.StreamLemmas.{last_grown-append}
use Rattle.zy_rx.specs.declared.rx.Rx.{Rx}
use Rattle.zy_rx.specs.declared.rx.Rx.TheVariants.{Segment, Close, End}
use Rattle.zy_rx.specs.Flow.{home_of}
use Rattle.zy_rx.specs.Session.{Sessions, no_sessions, with_bytes, with_close, takes_in, sessions_from, received_by}
use Rattle.zy_rx.specs.Session.{streams_of}
use Rattle.zy_rx.proofs.SessionLemmas.{sessions-push}
use Rattle.zy_run.specs.Commands.{streams_in}
use Rattle.zy_run.proofs.StreamLemmas.{streams_held}
use Rattle.zy_feed.specs.Routing.{offered_item, is_for, items_for, offered_to}

-- ---- the items of one record

-- a connection has received these sessions, and they are kept
record Has (connections : List (List (List ℕ))) (conn : ℕ) (s : Sessions) : Type 0 where
  within : conn < length connections
  kept : sessions_at connections conn ≡ streams_of s
  open_yet : s.ended ≡ false

has_grown : (connections : List (List (List ℕ))) (conn : ℕ) (s : Sessions) (bytes : List ℕ) → Has connections conn s → Has (grown connections conn bytes) conn (with_bytes bytes s)
has_grown connections conn s bytes has = record {
  within = omega (arith, length-set connections conn (last_grown (sessions_at connections conn) bytes), has.within);
  kept = get_or-set_same connections conn (last_grown (sessions_at connections conn) bytes) [] has.within
      ∙ ap (λ (l : List (List ℕ)). last_grown l bytes) has.kept ∙ last_grown-append s.closed s.current bytes;
  open_yet = has.open_yet;
}

has_closed : (connections : List (List (List ℕ))) (conn : ℕ) (s : Sessions) → Has connections conn s → Has (closed connections conn) conn (with_close s)
has_closed connections conn s has = record {
  within = omega (arith, length-set connections conn (sessions_at connections conn ++ [] ∷ []), has.within);
  kept = get_or-set_same connections conn (sessions_at connections conn ++ [] ∷ []) [] has.within ∙ ap (λ (l : List (List ℕ)). l ++ [] ∷ []) has.kept;
  open_yet = has.open_yet;
}

has_still : (connections : List (List (List ℕ))) (conn other : ℕ) (s : Sessions) (sessions : List (List ℕ)) → (other ≡ conn → ⊥) → Has connections conn s → Has (slice_set connections other sessions) conn s
has_still connections conn other s sessions differs has = record {
  within = omega (arith, length-set connections other sessions, has.within);
  kept = get_or-set_other connections other conn sessions [] (λ e. differs (sym e)) ∙ has.kept;
  open_yet = has.open_yet;
}

takes_bytes : (conn other : ℕ) (s : Sessions) (bytes : List ℕ) (same : Bool) → s.ended ≡ false → (other == conn) ≡ same → takes_in conn s (Segment other bytes) ≡ (if same then with_bytes bytes s else s)
takes_bytes conn other s bytes same live is = λ i. if live i then s else (if is i then with_bytes bytes s else s)

takes_close : (conn other : ℕ) (s : Sessions) (same : Bool) → s.ended ≡ false → (other == conn) ≡ same → takes_in conn s (Close other) ≡ (if same then with_close s else s)
takes_close conn other s same live is = λ i. if live i then s else (if is i then with_close s else s)

-- what a record's item changes in what a connection has received, its record changes in what is kept
has_more : (connections : List (List (List ℕ))) (conn : ℕ) (s : Sessions) (r : Record) → Has connections conn s → Has (with_record connections r) conn (takes_in conn s (offered_item r))
has_more connections conn s (Kinds.Segment x) has =
    elim (eqb_tells x.conn conn) [
      | inl same ↦ subst (Has (grown connections x.conn x.bytes) conn) (sym (takes_bytes conn x.conn s x.bytes true has.open_yet same.0)) (rw same.1 (has_grown connections conn s x.bytes has))
      | inr other ↦ subst (Has (grown connections x.conn x.bytes) conn) (sym (takes_bytes conn x.conn s x.bytes false has.open_yet other.0)) (has_still connections conn x.conn s (last_grown (sessions_at connections x.conn) x.bytes) other.1 has)
    ]
has_more connections conn s (Kinds.Close c) has =
    elim (eqb_tells c conn) [
      | inl same ↦ subst (Has (closed connections c) conn) (sym (takes_close conn c s true has.open_yet same.0)) (rw same.1 (has_closed connections conn s has))
      | inr other ↦ subst (Has (closed connections c) conn) (sym (takes_close conn c s false has.open_yet other.0)) (has_still connections conn c s (sessions_at connections c ++ [] ∷ []) other.1 has)
    ]

-- ---- the items of all records

has_all : (records : List Record) (connections : List (List (List ℕ))) (conn : ℕ) (s : Sessions) → Has connections conn s → Has (with_records connections records) conn (sessions_from conn s (map offered_item records))
has_all [] connections conn s has = has
has_all (r ∷ records) connections conn s has = has_all records (with_record connections r) conn (takes_in conn s (offered_item r)) (has_more connections conn s r has)

-- an empty session without a byte
abbrev one_empty : List (List ℕ)
one_empty = [] ∷ []

at_first : (conn : ℕ) → Has (no_bytes (conn + 1)) conn no_sessions
at_first conn = record {
  within = omega (arith, length-replicate (conn + 1) one_empty);
  kept = get_or-replicate (conn + 1) conn one_empty [] (omega arith);
  open_yet = refl;
}

pub received : (conn : ℕ) (records : List Record) → streams_of (received_by conn (map offered_item records)) ≡ streams_in records conn
received conn records = sym (has_all records (no_bytes (conn + 1)) conn no_sessions (at_first conn)).kept ∙ streams_held (conn + 1) conn records (omega arith)

-- ---- items for other cores

-- an item that is not for the home of a connection changes nothing for it
not_here : (cores core conn : ℕ) (s : Sessions) (x : Rx) → home_of cores conn ≡ core → is_for cores core x ≡ false → takes_in conn s x ≡ s
not_here cores core conn s (Segment c bytes) home other =
    elim (eqb_tells c conn) [
      | inl same ↦ (let wrong : is_for cores core (Segment c bytes) ≡ true = rw same.1 (eq-eqb (home_of cores conn) core home) in absurd (cc))
      | inr differs ↦ ap (λ b. if s.ended then s else (if b then with_bytes bytes s else s)) differs.0 ∙ either s.ended
    ]
  where
    either : (b : Bool) → (if b then s else s) ≡ s
    either true = refl
    either false = refl
not_here cores core conn s (Close c) home other =
    elim (eqb_tells c conn) [
      | inl same ↦ (let wrong : is_for cores core (Close c) ≡ true = rw same.1 (eq-eqb (home_of cores conn) core home) in absurd (cc))
      | inr differs ↦ ap (λ b. if s.ended then s else (if b then with_close s else s)) differs.0 ∙ either s.ended
    ]
  where
    either : (b : Bool) → (if b then s else s) ≡ s
    either true = refl
    either false = refl
not_here cores core conn s End home other = absurd (cc)

-- a connection receives the same of what its home is given
pub routed : (cores core conn : ℕ) (s : Sessions) (xs : List Rx) → home_of cores conn ≡ core → sessions_from conn s (filter (is_for cores core) xs) ≡ sessions_from conn s xs
routed cores core conn s [] home = refl
routed cores core conn s (x ∷ xs) home = go (is_for cores core x) refl (λ t. routed cores core conn t xs home)
  where
    go : (b : Bool) → is_for cores core x ≡ b → ((t : Sessions) → sessions_from conn t (filter (is_for cores core) xs) ≡ sessions_from conn t xs)
        → sessions_from conn s (cond b (x ∷ filter (is_for cores core) xs) (filter (is_for cores core) xs)) ≡ sessions_from conn (takes_in conn s x) xs
    go true is rest = rest (takes_in conn s x)
    go false is rest = rest s ∙ ap (λ (t : Sessions). sessions_from conn t xs) (sym (not_here cores core conn s x home is))

-- ---- all that is offered

pub offered_streams : (cores core conn : ℕ) (records : List Record) → home_of cores conn ≡ core → streams_of (received_by conn (offered_to cores core records)) ≡ streams_in records conn
offered_streams cores core conn records home =
    ap streams_of (sessions-push conn no_sessions (items_for cores core records) End)
    ∙ ap streams_of (routed cores core conn no_sessions (map offered_item records) home) ∙ received conn records
