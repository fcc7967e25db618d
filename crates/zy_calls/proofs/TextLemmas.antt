-- Texts one after another in one row of bytes: all of them joined, the first of them, and more of them.
use Rattle.std.proofs.Common.{◌≡◌, ℕ, zero, suc, ◌+◌, ◌-◌, ◌<◌, ◌≤◌, List, [], ◌∷◌, ◌++◌, length, take, drop, get_or, refl, sym, ap, ◌∙◌, subst, arith, length-append}
use Rattle.std.specs.List.{concat}
use Rattle.std.proofs.lemmas.List.{append-nil, take-append-drop, length-take-le, take-append-le, drop-append-le, drop-drop, drop_all, take_all, length-drop}
use Rattle.std.proofs.Math.Seq.{drop-append-add, take-add, take-append_seam}
use Rattle.zy_calls.specs.Texts.{texts_from, end_of, Rise, further}

-- ---- places

-- the last place is not below the first
pub Rise-le : (start : ℕ) (ends : List ℕ) (last : ℕ) → Rise start ends last → start ≤ last
Rise-le start [] last rise = omega arith
Rise-le start (end ∷ ends) last rise = let more = Rise-le end ends last rise.1 in omega (arith, rise.0)

-- each place is between them
pub Rise-at : (start : ℕ) (ends : List ℕ) (last at d : ℕ) → Rise start ends last → at < length ends → (start ≤ get_or ends at d) × (get_or ends at d ≤ last)
Rise-at start [] last at d rise within = absurd (omega arith)
Rise-at start (end ∷ ends) last zero d rise within = (rise.0, Rise-le end ends last rise.1)
Rise-at start (end ∷ ends) last (suc at) d rise within =
    let more = Rise-at end ends last at d rise.1 (omega arith) in (omega (arith, rise.0, more.0), more.1)

-- places shifted by a number rise from a shifted place
pub Rise-further : (count start : ℕ) (ends : List ℕ) (last : ℕ) → Rise start ends last → Rise (count + start) (further count ends) (count + last)
Rise-further count start [] last rise = ap (λ n. count + n) rise
Rise-further count start (end ∷ ends) last rise = (omega (arith, rise.0), Rise-further count end ends last rise.1)

-- places that rise to where others begin rise on with those
pub Rise-append : (start : ℕ) (front : List ℕ) (middle : ℕ) (ends : List ℕ) (last : ℕ) → Rise start front middle → Rise middle ends last → Rise start (front ++ ends) last
Rise-append start [] middle ends last one two = rw one two
Rise-append start (end ∷ front) middle ends last one two = (one.0, Rise-append end front middle ends last one.1 two)

-- ---- texts

pub length-texts_from : (bytes : List ℕ) (start : ℕ) (ends : List ℕ) → length (texts_from bytes start ends) ≡ length ends
length-texts_from bytes start [] = refl
length-texts_from bytes start (end ∷ ends) = ap suc (length-texts_from bytes end ends)

part_and_rest : (bytes : List ℕ) (start end : ℕ) → start ≤ end → take (end - start) (drop start bytes) ++ drop end bytes ≡ drop start bytes
part_and_rest bytes start end within =
    let sum : start + (end - start) ≡ end = omega arith in
    ap (λ (rest : List ℕ). take (end - start) (drop start bytes) ++ rest) (ap (λ n. drop n bytes) (sym sum) ∙ sym (drop-drop (end - start) start bytes))
    ∙ take-append-drop (end - start) (drop start bytes)

-- the texts joined are the bytes
pub concat-texts_from : (bytes : List ℕ) (start : ℕ) (ends : List ℕ) → Rise start ends (length bytes) → concat (texts_from bytes start ends) ≡ drop start bytes
concat-texts_from bytes start [] rise = sym (drop_all start bytes (omega (arith, rise)))
concat-texts_from bytes start (end ∷ ends) rise =
    ap (λ (rest : List ℕ). take (end - start) (drop start bytes) ++ rest) (concat-texts_from bytes end ends rise.1) ∙ part_and_rest bytes start end rise.0

-- the first texts joined are the bytes up to the place at which the last of them ends
pub concat-take : (bytes : List ℕ) (start : ℕ) (ends : List ℕ) (at d : ℕ) → Rise start ends (length bytes) → at < length ends
    → concat (take (suc at) (texts_from bytes start ends)) ≡ take (get_or ends at d - start) (drop start bytes)
concat-take bytes start [] at d rise within = absurd (omega arith)
concat-take bytes start (end ∷ ends) zero d rise within = append-nil (take (end - start) (drop start bytes))
concat-take bytes start (end ∷ ends) (suc at) d rise within =
    let place = get_or ends at d in
    let between = Rise-at end ends (length bytes) at d rise.1 (omega arith) in
    let sum : place - start ≡ (end - start) + (place - end) = omega (arith, rise.0, between.0) in
    let on : start + (end - start) ≡ end = omega (arith, rise.0) in
    ap (λ (rest : List ℕ). take (end - start) (drop start bytes) ++ rest)
    (concat-take bytes end ends at d rise.1 (omega arith) ∙ ap (λ (rest : List ℕ). take (place - end) rest) (ap (λ n. drop n bytes) (sym on) ∙ sym (drop-drop (end - start) start bytes)))
    ∙ sym (take-add (end - start) (place - end) (drop start bytes))
    ∙ ap (λ n. take n (drop start bytes)) (sym sum)

-- after other bytes the texts are the same
behind : (front bytes : List ℕ) (start : ℕ) (ends : List ℕ) → texts_from (front ++ bytes) (length front + start) (further (length front) ends) ≡ texts_from bytes start ends
behind front bytes start [] = refl
behind front bytes start (end ∷ ends) =
    let same : length front + end - (length front + start) ≡ end - start = omega arith in
    ap (λ (rest : List (List ℕ)). take (length front + end - (length front + start)) (drop (length front + start) (front ++ bytes)) ∷ rest) (behind front bytes end ends)
    ∙ ap (λ (text : List ℕ). text ∷ texts_from bytes end ends)
    (ap (λ n. take n (drop (length front + start) (front ++ bytes))) same ∙ ap (λ (rest : List ℕ). take (end - start) rest) (drop-append-add front bytes start))

before : (bytes more : List ℕ) (start end : ℕ) → start ≤ end → end ≤ length bytes → take (end - start) (drop start (bytes ++ more)) ≡ take (end - start) (drop start bytes)
before bytes more start end low high =
    ap (λ (rest : List ℕ). take (end - start) rest) (drop-append-le start bytes more (omega arith))
    ∙ take-append-le (end - start) (drop start bytes) more (omega (arith, length-drop start bytes))

-- the texts of joined bytes are those of the first part and then those of the second
pub texts_from-append : (front bytes : List ℕ) (start : ℕ) (fronts ends : List ℕ) → Rise start fronts (length front)
    → texts_from (front ++ bytes) start (fronts ++ further (length front) ends) ≡ texts_from front start fronts ++ texts_from bytes 0 ends
texts_from-append front bytes start [] ends rise =
    let at : start ≡ length front + 0 = omega (arith, rise) in
    ap (λ n. texts_from (front ++ bytes) n (further (length front) ends)) at ∙ behind front bytes 0 ends
texts_from-append front bytes start (end ∷ fronts) ends rise =
    ap (λ (rest : List (List ℕ)). take (end - start) (drop start (front ++ bytes)) ∷ rest) (texts_from-append front bytes end fronts ends rise.1)
    ∙ ap (λ (text : List ℕ). text ∷ (texts_from front end fronts ++ texts_from bytes 0 ends)) (before front bytes start end rise.0 (Rise-le end fronts (length front) rise.1))

-- ---- one further text, and the texts of another list

-- a row of bytes with the ends of its texts, which are these
pub record Holds (bytes ends : List ℕ) (texts : List (List ℕ)) : Type 0 where
  pub rise : Rise 0 ends (length bytes)
  pub texts_are : texts_from bytes 0 ends ≡ texts

joined : (front bytes fronts ends : List ℕ) → Rise 0 fronts (length front) → Rise 0 ends (length bytes)
    → Holds (front ++ bytes) (fronts ++ further (length front) ends) (texts_from front 0 fronts ++ texts_from bytes 0 ends)
joined front bytes fronts ends one two =
    let begin : length front + 0 ≡ length front = omega arith in
    let last : length front + length bytes ≡ length (front ++ bytes) = sym (length-append front bytes) in
    let moved = Rise-further (length front) 0 ends (length bytes) two in
    record {
      rise = Rise-append 0 fronts (length front) (further (length front) ends) (length (front ++ bytes)) one (rw (← last) (rise_at (length front + 0) (length front) (further (length front) ends) (length front + length bytes) begin moved));
      texts_are = texts_from-append front bytes 0 fronts ends one;
    }
  where
    rise_at : (a b : ℕ) (ends : List ℕ) (last : ℕ) → a ≡ b → Rise a ends last → Rise b ends last
    rise_at a b ends last is rise = subst (λ n. Rise n ends last) is rise

-- the texts of another list after those of one
pub joined_as : (front bytes fronts ends all places : List ℕ) → Rise 0 fronts (length front) → Rise 0 ends (length bytes)
    → all ≡ front ++ bytes → places ≡ fronts ++ further (length front) ends
    → Holds all places (texts_from front 0 fronts ++ texts_from bytes 0 ends)
joined_as front bytes fronts ends all places one two is at = rw (is, at) (joined front bytes fronts ends one two)

-- one text after them
pub pushed_as : (front text fronts all places : List ℕ) (last : ℕ) → Rise 0 fronts (length front)
    → all ≡ front ++ text → places ≡ fronts ++ last ∷ [] → last ≡ length all
    → Holds all places (texts_from front 0 fronts ++ text ∷ [])
pushed_as front text fronts all places last one is at end =
    let sum : last ≡ length front + length text = omega (arith, end, ap (λ (l : List ℕ). length l) is, length-append front text) in
    let whole : texts_from text 0 (length text ∷ []) ≡ text ∷ [] = ap (λ (t : List ℕ). t ∷ []) (take_all (length text - 0) text (omega arith)) in
    let h = joined_as front text fronts (length text ∷ []) all places one (omega arith, refl) is (at ∙ ap (λ n. fronts ++ n ∷ []) sum) in
    record { rise = h.rise; texts_are = h.texts_are ∙ ap (λ (more : List (List ℕ)). texts_from front 0 fronts ++ more) whole }

-- ---- one text fewer

pub end_of_get : (start : ℕ) (ends : List ℕ) (at d : ℕ) → at + 1 ≡ length ends → get_or ends at d ≡ end_of start ends
end_of_get start [] at d is = absurd (omega (arith, is))
end_of_get start (end ∷ []) at d is = let first : at ≡ 0 = omega (arith, is) in ap (λ n. get_or (end ∷ []) n d) first
end_of_get start (end ∷ next ∷ ends) zero d is = absurd (omega (arith, is))
end_of_get start (end ∷ next ∷ ends) (suc at) d is = end_of_get end (next ∷ ends) at d (omega (arith, is))

Rise-front : (start : ℕ) (ends : List ℕ) (last total : ℕ) → Rise start (ends ++ last ∷ []) total → Rise start ends (end_of start ends) × (end_of start ends ≤ last) × (last ≤ total)
Rise-front start [] last total rise = (refl, rise.0, omega (arith, rise.1))
Rise-front start (end ∷ ends) last total rise = let more = Rise-front end ends last total rise.1 in ((rise.0, more.0), more.1, more.2)

front_of : {A : Type 0} (xs ys : List A) (x y : A) → xs ++ x ∷ [] ≡ ys ++ y ∷ [] → xs ≡ ys
front_of xs ys x y same =
    let size : length xs ≡ length ys = omega (arith, ap length same, length-append xs (x ∷ []), length-append ys (y ∷ [])) in
    sym (take-append_seam xs (x ∷ [])) ∙ ap (λ l. take (length xs) l) same ∙ ap (λ n. take n (ys ++ y ∷ [])) size ∙ take-append_seam ys (y ∷ [])

-- without the last text there are those before it
pub popped_as : (bytes ends front : List ℕ) (last cut : ℕ) → Rise 0 ends (length bytes) → ends ≡ front ++ last ∷ [] → cut ≡ end_of 0 front
    → (Rise 0 front (length (take cut bytes))) × ((texts : List (List ℕ)) (text : List ℕ) → texts_from bytes 0 ends ≡ texts ++ text ∷ [] → texts_from (take cut bytes) 0 front ≡ texts)
popped_as bytes ends front last cut rise is at =
    let places = Rise-front 0 front last (length bytes) (subst (λ (l : List ℕ). Rise 0 l (length bytes)) is rise) in
    let size : length (take cut bytes) ≡ cut = length-take-le cut bytes (omega (arith, at, places.1, places.2)) in
    let same : end_of 0 front ≡ length (take cut bytes) = sym (size ∙ at) in
    let rises : Rise 0 front (length (take cut bytes)) = subst (λ n. Rise 0 front n) same places.0 in
    let rest : List ℕ = drop cut bytes in
    let moved : front ++ last ∷ [] ≡ front ++ further (length (take cut bytes)) ((last - cut) ∷ []) =
    ap (λ n. front ++ n ∷ []) (omega (arith, size, at, places.1)) in
    let whole : texts_from bytes 0 ends ≡ texts_from (take cut bytes) 0 front ++ texts_from rest 0 ((last - cut) ∷ []) =
    ap (λ l. texts_from bytes 0 l) (is ∙ moved) ∙ ap (λ b. texts_from b 0 (front ++ further (length (take cut bytes)) ((last - cut) ∷ []))) (sym (take-append-drop cut bytes))
    ∙ texts_from-append (take cut bytes) rest 0 front ((last - cut) ∷ []) rises in
    (rises, λ texts text held. front_of _ texts _ text (sym whole ∙ held))

pub popped : (bytes bytes' ends front : List ℕ) (last cut : ℕ) → Rise 0 ends (length bytes) → ends ≡ front ++ last ∷ [] → cut ≡ end_of 0 front → bytes' ≡ take cut bytes
    → (Rise 0 front (length bytes')) × ((texts : List (List ℕ)) (text : List ℕ) → texts_from bytes 0 ends ≡ texts ++ text ∷ [] → texts_from bytes' 0 front ≡ texts)
popped bytes bytes' ends front last cut rise is at cuts = rw cuts (popped_as bytes ends front last cut rise is at)
