-- If the end was offered last and was taken, all items were taken.
use Rattle.std.specs.Prelude.{◌==◌, ◌||◌, if◌then◌else◌, filter}
use Rattle.std.proofs.Common.{◌≡◌, ℕ, List, [], ◌∷◌, ◌++◌, map, Bool, true, false, cond, refl, sym, ap, ◌∙◌}
use Rattle.std.proofs.lemmas.List.{map-append, append-nil}
use Rattle.zy_base.proofs.FilterLemmas.{filter-push, filter-push_other}
use Rattle.zy_capture.specs.declared.record.Record.{Record}
use Rattle.zy_capture.specs.declared.record.Record.TheVariants as Kinds
use Rattle.zy_rx.specs.declared.rx.Rx.{Rx}
use Rattle.zy_rx.specs.declared.rx.Rx.TheVariants.{Segment, Close, End}
use Rattle.zy_rx.specs.Session.{Sessions, no_sessions, with_bytes, with_close, takes_in, sessions_from, received_by}
use Rattle.zy_feed.specs.Routing.{offered_item, is_for, items_for, offered_to}

-- ---- one further item is offered

pub items_for-push : (cores core : ℕ) (records : List Record) (last : Record) → is_for cores core (offered_item last) ≡ true → items_for cores core (records ++ last ∷ []) ≡ items_for cores core records ++ offered_item last ∷ []
items_for-push cores core records last here =
    ap (filter (is_for cores core)) (map-append offered_item records (last ∷ [])) ∙ filter-push (is_for cores core) (map offered_item records) (offered_item last) here

pub items_for-push_other : (cores core : ℕ) (records : List Record) (last : Record) → is_for cores core (offered_item last) ≡ false → items_for cores core (records ++ last ∷ []) ≡ items_for cores core records
items_for-push_other cores core records last other =
    ap (filter (is_for cores core)) (map-append offered_item records (last ∷ [])) ∙ filter-push_other (is_for cores core) (map offered_item records) (offered_item last) other

-- ---- the end

-- the item is the end
abbrev pub is_end : Rx → Bool
is_end (Segment conn bytes) = false
is_end (Close conn) = false
is_end End = true

-- the end is among the items
abbrev pub has_end : List Rx → Bool
has_end [] = false
has_end (x ∷ xs) = is_end x || has_end xs

-- an item that is not the end does not end a connection's sessions
goes_on : (conn : ℕ) (s : Sessions) (x : Rx) → s.ended ≡ false → is_end x ≡ false → (takes_in conn s x).ended ≡ false
goes_on conn s (Segment c bytes) live other = go s.ended (c == conn) live
  where
    go : (a b : Bool) → s.ended ≡ false → (if a then s else (if b then with_bytes bytes s else s)).ended ≡ false
    go true b e = e
    go false true e = e
    go false false e = e
goes_on conn s (Close c) live other = go s.ended (c == conn) live
  where
    go : (a b : Bool) → s.ended ≡ false → (if a then s else (if b then with_close s else s)).ended ≡ false
    go true b e = e
    go false true e = e
    go false false e = e
goes_on conn s End live other = absurd (cc)

-- a connection's sessions have ended only if the end is among the items
pub end_is_among : (conn : ℕ) (s : Sessions) (xs : List Rx) → s.ended ≡ false → (sessions_from conn s xs).ended ≡ true → has_end xs ≡ true
end_is_among conn s [] live ended = absurd (cc)
end_is_among conn s (x ∷ xs) live ended = go (is_end x) refl (λ still. end_is_among conn (takes_in conn s x) xs still ended)
  where
    go : (b : Bool) → is_end x ≡ b → ((takes_in conn s x).ended ≡ false → has_end xs ≡ true) → (b || has_end xs) ≡ true
    go true is rest = refl
    go false is rest = rest (goes_on conn s x live is)

-- no record is offered as the end
pub no_end : (cores core : ℕ) (records : List Record) → has_end (items_for cores core records) ≡ false
no_end cores core [] = refl
no_end cores core (r ∷ records) = go (is_for cores core (offered_item r)) r (no_end cores core records)
  where
    go : (b : Bool) (r : Record) → has_end (items_for cores core records) ≡ false → has_end (cond b (offered_item r ∷ items_for cores core records) (items_for cores core records)) ≡ false
    go true (Kinds.Segment s) rest = rest
    go true (Kinds.Close conn) rest = rest
    go false r rest = rest

-- ---- all items were taken

nothing_behind : (xs ys : List Rx) → xs ++ ys ≡ [] → ys ≡ []
nothing_behind [] ys is = is
nothing_behind (x ∷ xs) ys is = absurd (cc)

pub none_known : (taken known front : List Rx) → taken ++ known ≡ front ++ End ∷ [] → has_end front ≡ false → has_end taken ≡ true → known ≡ []
none_known [] known front is none some = absurd (cc)
none_known (x ∷ xs) known [] is none some = nothing_behind xs known (cc)
none_known (x ∷ xs) known (y ∷ ys) is none some =
    let same : x ≡ y = cc in
    let rest : xs ++ known ≡ ys ++ End ∷ [] = cc in
    go (is_end y) refl none some same (λ a b. none_known xs known ys rest a b)
  where
    go : (b : Bool) → is_end y ≡ b → (b || has_end ys) ≡ false → (is_end x || has_end xs) ≡ true → x ≡ y → (has_end ys ≡ false → has_end xs ≡ true → known ≡ []) → known ≡ []
    go true is none some same f = absurd (cc)
    go false is none some same f = f none (sym (ap (λ b. b || has_end xs) (ap is_end same ∙ is)) ∙ some)

pub none_left : (cores core conn : ℕ) (records : List Record) (taken known : List Rx) → taken ++ known ≡ offered_to cores core records → (received_by conn taken).ended ≡ true → known ≡ []
none_left cores core conn records taken known is ended =
    none_known taken known (items_for cores core records) is (no_end cores core records) (end_is_among conn no_sessions taken refl ended)

pub all_taken : (cores core conn : ℕ) (records : List Record) (taken known : List Rx) → taken ++ known ≡ offered_to cores core records → (received_by conn taken).ended ≡ true → taken ≡ offered_to cores core records
all_taken cores core conn records taken known is ended =
    sym (append-nil taken) ∙ ap (λ (l : List Rx). taken ++ l) (sym (none_left cores core conn records taken known is ended)) ∙ is
