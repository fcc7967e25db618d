-- How a sink's bytes grow, write after write.
use Rattle.std.proofs.Common.{◌≡◌, ◌⊎◌, inl, inr, ℕ, ◌+◌, ◌-◌, ◌≤◌, ◌<◌, refl, List, [], ◌++◌, take-append-drop, length, take, drop, get_or, sym, ◌∙◌, ap, subst, arith, append_assoc, length-append}
use Rattle.std.specs.Prelude.{flat_map, Bool, Option, Some, None, ⊤, Result, Ok, Err, is_ok, IsErr, OnErr}
use Rattle.std.proofs.Math.Seq.{take-add, take-append-add}
use Rattle.std.proofs.lemmas.Grind.{flat_map-append}
use Rattle.std.proofs.lemmas.List.{append-nil, drop_more, take_rest, take_all, take-append-le}
use Rattle.zy_base.specs.Outside.{Grew, GrewByPrefix, Rose, Writes, WritesLast, one_more}

-- ---- bytes

-- nothing was taken
pub grew_nothing : (held : Option (List ℕ)) → Grew held held []
grew_nothing None = tt
grew_nothing (Some bytes) = sym (append-nil bytes)

-- two pieces, one after the other
pub grew_on : (a b c : Option (List ℕ)) (x y : List ℕ) → Grew a b x → Grew b c y → Grew a c (x ++ y)
grew_on a b None x y first second = tt
grew_on a None (Some after) x y first second = absurd second
grew_on None (Some between) (Some after) x y first second = absurd first
grew_on (Some before) (Some between) (Some after) x y first second =
    second ∙ ap (λ (held : List ℕ). held ++ y) first ∙ append_assoc before x y

-- one further write of a piece, some bytes of which were taken before
pub grew_piece : (a b c : Option (List ℕ)) (piece : List ℕ) (at n : ℕ) → Grew a b (take at piece) → Grew b c (take n (take (length piece - at) (drop at piece))) → Grew a c (take (at + n) piece)
grew_piece a b c piece at n first second =
    let joined : take at piece ++ take n (take (length piece - at) (drop at piece)) ≡ take (at + n) piece =
    ap (λ (rest : List ℕ). take at piece ++ take n rest) (take_rest piece at) ∙ sym (take-add at n piece) in
    subst (Grew a c) joined (grew_on a b c _ _ first second)

-- a call after it that took nothing
pub grew_same : (a b c : Option (List ℕ)) (x : List ℕ) → Grew a b x → Grew b c [] → Grew a c x
grew_same a b c x first second = subst (Grew a c) (append-nil x) (grew_on a b c x [] first second)

-- ---- prefixes

-- a prefix of the first of two texts is one of both
pub part_of_first : (a b : Option (List ℕ)) (x y : List ℕ) → GrewByPrefix a b x → GrewByPrefix a b (x ++ y)
part_of_first a b x y (n, within, grew) =
    (n, omega (arith, length-append x y, within), subst (Grew a b) (sym (take-append-le n x y within)) grew)

-- the first of two texts and a prefix of the second are a prefix of both
pub part_of_second : (a b c : Option (List ℕ)) (x y : List ℕ) → Grew a b x → GrewByPrefix b c y → GrewByPrefix a c (x ++ y)
part_of_second a b c x y first (n, within, second) =
    (length x + n, omega (arith, length-append x y, within), subst (Grew a c) (sym (take-append-add x y n)) (grew_on a b c x (take n y) first second))

-- a whole text is a prefix of itself
pub part_of_whole : (a b : Option (List ℕ)) (x : List ℕ) → Grew a b x → GrewByPrefix a b x
part_of_whole a b x grew = (length x, omega arith, subst (Grew a b) (sym (take_all (length x) x (omega arith))) grew)

-- a count that rose after some time rose over the whole time
pub rose_later : (a b c : ℕ) → a ≤ b → Rose b c → Rose a c
rose_later a b c le (inl more) = inl (omega arith)
rose_later a b c le (inr last) = inr last

-- ---- texts

-- since the first of two states of a sink, this text was written whole, and the sink was not finished
pub record Written {K : Type 0} (holds : K → Option (List ℕ)) (faults finishes : K → ℕ) (old new : K) (text : List ℕ) : Type 0 where
  pub grew : Grew (holds old) (holds new) text
  pub count : faults old ≤ faults new
  pub unfinished : finishes new ≡ finishes old

-- before the first write
pub written_none : {K : Type 0} {holds : K → Option (List ℕ)} {faults finishes : K → ℕ} {old : K} → Written holds faults finishes old old []
written_none {holds = holds} {old = old} = record { grew = grew_nothing (holds old); count = omega arith; unfinished = refl }

module _ {K : Type 0} {holds : K → Option (List ℕ)} {faults finishes : K → ℕ} {old new : K} {x : List ℕ} where
  -- a call wrote the text
  pub written_by : {E : Type 0} {u : ⊤} → Writes {E = E} holds faults finishes old new (Ok u) x → Written holds faults finishes old new x
  written_by writes = record { grew = writes.whole; count = writes.count; unfinished = writes.unfinished }

  -- a text that was written is what a call had to write
  pub writes_all : {E : Type 0} {u : ⊤} → Written holds faults finishes old new x → Writes {E = E} holds faults finishes old new (Ok u) x
  writes_all {u = tt} written = record { whole = written.grew; part = tt; count = written.count; cause = tt; unfinished = written.unfinished }

  -- the same text, said otherwise
  pub written_as : {y : List ℕ} → x ≡ y → Written holds faults finishes old new x → Written holds faults finishes old new y
  written_as same written = subst (Written holds faults finishes old new) same written

  pub writes_as : {E : Type 0} {result : Result ⊤ E} {y : List ℕ} → x ≡ y → Writes holds faults finishes old new result x → Writes holds faults finishes old new result y
  writes_as {result = result} same writes = subst (Writes holds faults finishes old new result) same writes

  -- two texts, the first of which failed, with whatever error it is answered
  pub writes_cut : {E : Type 0} {result : Result ⊤ E} {e : E} (y : List ℕ) → IsErr result → Writes holds faults finishes old new (Err e) x → Writes holds faults finishes old new result (x ++ y)
  writes_cut {result = Ok u} y refused failed = absurd (cc)
  writes_cut {result = Err other} y refused failed = record {
    whole = tt;
    part = part_of_first (holds old) (holds new) x y failed.part;
    count = failed.count;
    cause = failed.cause;
    unfinished = failed.unfinished;
  }

module _ {K : Type 0} {holds : K → Option (List ℕ)} {faults finishes : K → ℕ} {old between new : K} {x y : List ℕ} where
  -- a text that is written after one that was written
  pub writes_after : {E : Type 0} {result : Result ⊤ E} → Written holds faults finishes old between x → Writes holds faults finishes between new result y → Writes holds faults finishes old new result (x ++ y)
  writes_after {result = Ok u} first second = record {
    whole = grew_on (holds old) (holds between) (holds new) x y first.grew second.whole;
    part = tt;
    count = omega (arith, first.count, second.count);
    cause = tt;
    unfinished = second.unfinished ∙ first.unfinished;
  }
  writes_after {result = Err e} first second = record {
    whole = tt;
    part = part_of_second (holds old) (holds between) (holds new) x y first.grew second.part;
    count = omega (arith, first.count, second.count);
    cause = rose_later (faults old) (faults between) (faults new) first.count second.cause;
    unfinished = second.unfinished ∙ first.unfinished;
  }

  -- the same, where the first was written by a call
  pub writes_then : {E F : Type 0} {u : ⊤} {result : Result ⊤ F} → Writes {E = E} holds faults finishes old between (Ok u) x → Writes holds faults finishes between new result y → Writes holds faults finishes old new result (x ++ y)
  writes_then first second = writes_after (written_by first) second

  -- a text that a call wrote after one that was written
  pub written_on : {E : Type 0} {u : ⊤} → Written holds faults finishes old between x → Writes {E = E} holds faults finishes between new (Ok u) y → Written holds faults finishes old new (x ++ y)
  written_on first second = record {
    grew = grew_on (holds old) (holds between) (holds new) x y first.grew second.whole;
    count = omega (arith, first.count, second.count);
    unfinished = second.unfinished ∙ first.unfinished;
  }

-- ---- last texts

-- a last text that is written after one that a call wrote
pub writes_last_then : {K E F : Type 0} {holds : K → Option (List ℕ)} {faults finishes : K → ℕ} {is_finished : K → Bool} {old between new : K} {u : ⊤} {result : Result ⊤ F} {x y : List ℕ}
    → Writes {E = E} holds faults finishes old between (Ok u) x → WritesLast holds faults finishes is_finished between new result y → WritesLast holds faults finishes is_finished old new result (x ++ y)
writes_last_then {holds = holds} {old = old} {between = between} {new = new} {result = Ok u} {x = x} {y = y} first second = record {
  whole = grew_on (holds old) (holds between) (holds new) x y first.whole second.whole;
  part = tt;
  count = omega (arith, first.count, second.count);
  cause = tt;
  finished = second.finished ∙ ap one_more first.unfinished;
  last = second.last;
  broken = tt;
}
writes_last_then {holds = holds} {faults = faults} {finishes = finishes} {old = old} {between = between} {new = new} {result = Err e} {x = x} {y = y} first second = record {
  whole = tt;
  part = part_of_second (holds old) (holds between) (holds new) x y first.whole second.part;
  count = omega (arith, first.count, second.count);
  cause = rose_later (faults old) (faults between) (faults new) first.count second.cause;
  finished = tt;
  last = tt;
  broken = subst (λ (n : ℕ). (finishes new ≡ n) ⊎ (finishes new ≡ one_more n)) first.unfinished second.broken;
}

-- a text whose writing failed, and which was not finished
pub writes_last_failed : {K E : Type 0} {holds : K → Option (List ℕ)} {faults finishes : K → ℕ} {is_finished : K → Bool} {old new : K} {e : E} {x : List ℕ} → Writes holds faults finishes old new (Err e) x → WritesLast holds faults finishes is_finished old new (Err e) x
writes_last_failed first = record {
  whole = tt;
  part = first.part;
  count = first.count;
  cause = first.cause;
  finished = tt;
  last = tt;
  broken = inl first.unfinished;
}

-- a text that was written whole, and then finished
pub writes_finished : {K E : Type 0} {holds : K → Option (List ℕ)} {faults finishes : K → ℕ} {is_finished : K → Bool} {old between new : K} {result : Result ⊤ E} {x : List ℕ} → Written holds faults finishes old between x
    → Grew (holds between) (holds new) [] → faults between ≤ faults new → OnErr result (Rose (faults between) (faults new)) → finishes new ≡ one_more (finishes between) → is_finished new ≡ is_ok result → WritesLast holds faults finishes is_finished old new result x
writes_finished {holds = holds} {old = old} {between = between} {new = new} {result = Ok u} {x = x} first still more cause once done = record {
  whole = grew_same (holds old) (holds between) (holds new) x first.grew still;
  part = tt;
  count = omega (arith, first.count, more);
  cause = tt;
  finished = once ∙ ap one_more first.unfinished;
  last = done;
  broken = tt;
}
writes_finished {holds = holds} {faults = faults} {old = old} {between = between} {new = new} {result = Err e} {x = x} first still more cause once done = record {
  whole = tt;
  part = part_of_whole (holds old) (holds new) x (grew_same (holds old) (holds between) (holds new) x first.grew still);
  count = omega (arith, first.count, more);
  cause = rose_later (faults old) (faults between) (faults new) first.count cause;
  finished = tt;
  last = tt;
  broken = inr (once ∙ ap one_more first.unfinished);
}

-- ---- lists of pieces

-- the pieces are those before one of them, that one, and those after it
pieces_at : {P : Type 0} (text : P → List ℕ) (pieces : List P) (i : ℕ) (d : P) → i < length pieces
    → flat_map text (take i pieces) ++ (text (get_or pieces i d) ++ flat_map text (drop (i + 1) pieces)) ≡ flat_map text pieces
pieces_at text pieces i d within =
    ap (λ rest. flat_map text (take i pieces) ++ flat_map text rest) (sym (drop_more pieces i d within))
    ∙ sym (flat_map-append text (take i pieces) (drop i pieces)) ∙ ap (flat_map text) (take-append-drop i pieces)

-- one of several pieces failed after those before it were written whole
pub pieces_failed : {K E P : Type 0} {holds : K → Option (List ℕ)} {faults finishes : K → ℕ} {old between new : K} {result : Result ⊤ E} {e : E} (text : P → List ℕ) (pieces : List P) (i : ℕ) (d : P) → IsErr result → i < length pieces
    → Written holds faults finishes old between (flat_map text (take i pieces))
    → Writes holds faults finishes between new (Err e) (text (get_or pieces i d)) → Writes holds faults finishes old new result (flat_map text pieces)
pieces_failed text pieces i d refused within front here =
    writes_as (pieces_at text pieces i d within) (writes_after front (writes_cut _ refused here))
