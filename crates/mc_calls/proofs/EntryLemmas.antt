-- Lists of entries that are one longer, or joined: their parts, their places, their stamps and their order.
use Rattle.std.specs.Prelude.{◌==◌, filter}
use Rattle.std.proofs.Common.{◌≡◌, ◌≢◌, ℕ, ◌+◌, ◌<◌, ◌≤◌, List, [], ◌∷◌, ◌++◌, length, map, refl, ap, ◌∙◌, eq-eqb, ne_eqb, arith}
use Rattle.std.proofs.lemmas.List.{append-nil, map-append}
use Rattle.std.proofs.lemmas.List.Elements.{filter-append}
use Rattle.mc_calls.specs.declared.entry.Entry.{Entry}
use Rattle.mc_calls.specs.declared.call_reply.CallReply.{CallReply}
use Rattle.mc_calls.specs.Kind.{MayAnswer, AreAnswers}
use Rattle.mc_calls.specs.Order.{of_connection, at_shard, AreAt, AreBelow, last_stamp, StampsRise, AreStampsBelow}
use Rattle.mc_calls.specs.Replies.{replies_at}
use Rattle.zy_base.proofs.FilterLemmas.{filter-here, filter-other, filter-push, filter-push_other}

-- ---- the entries of a connection

pub of_connection-here : (connection : ℕ) (e : Entry) (es : List Entry) → e.tag.conn ≡ connection → of_connection connection (e ∷ es) ≡ e ∷ of_connection connection es
of_connection-here connection e es is = filter-here (λ x. x.tag.conn == connection) e es (eq-eqb e.tag.conn connection is)

pub of_connection-other : (connection : ℕ) (e : Entry) (es : List Entry) → e.tag.conn ≢ connection → of_connection connection (e ∷ es) ≡ of_connection connection es
of_connection-other connection e es other = filter-other (λ x. x.tag.conn == connection) e es (ne_eqb e.tag.conn connection other)

pub of_connection-push : (connection : ℕ) (es : List Entry) (e : Entry) → e.tag.conn ≡ connection → of_connection connection (es ++ e ∷ []) ≡ of_connection connection es ++ e ∷ []
of_connection-push connection es e is = filter-push (λ x. x.tag.conn == connection) es e (eq-eqb e.tag.conn connection is)

pub of_connection-push_other : (connection : ℕ) (es : List Entry) (e : Entry) → e.tag.conn ≢ connection → of_connection connection (es ++ e ∷ []) ≡ of_connection connection es
of_connection-push_other connection es e other = filter-push_other (λ x. x.tag.conn == connection) es e (ne_eqb e.tag.conn connection other)

-- ---- the entries at a shard

pub at_shard-here : (shard : ℕ) (e : Entry) (es : List Entry) → e.shard ≡ shard → at_shard shard (e ∷ es) ≡ e ∷ at_shard shard es
at_shard-here shard e es is = filter-here (λ x. x.shard == shard) e es (eq-eqb e.shard shard is)

pub at_shard-other : (shard : ℕ) (e : Entry) (es : List Entry) → e.shard ≢ shard → at_shard shard (e ∷ es) ≡ at_shard shard es
at_shard-other shard e es other = filter-other (λ x. x.shard == shard) e es (ne_eqb e.shard shard other)

pub at_shard-push : (shard : ℕ) (es : List Entry) (e : Entry) → e.shard ≡ shard → at_shard shard (es ++ e ∷ []) ≡ at_shard shard es ++ e ∷ []
at_shard-push shard es e is = filter-push (λ x. x.shard == shard) es e (eq-eqb e.shard shard is)

pub at_shard-push_other : (shard : ℕ) (es : List Entry) (e : Entry) → e.shard ≢ shard → at_shard shard (es ++ e ∷ []) ≡ at_shard shard es
at_shard-push_other shard es e other = filter-push_other (λ x. x.shard == shard) es e (ne_eqb e.shard shard other)

pub at_shard-append : (shard : ℕ) (xs ys : List Entry) → at_shard shard (xs ++ ys) ≡ at_shard shard xs ++ at_shard shard ys
at_shard-append shard xs ys = filter-append (λ x. x.shard == shard) xs ys

-- ---- the replies of a command

abbrev reply_in : Entry → CallReply
reply_in e = e.reply

pub replies_at-here : (index : ℕ) (e : Entry) (es : List Entry) → e.tag.index ≡ index → replies_at index (e ∷ es) ≡ e.reply ∷ replies_at index es
replies_at-here index e es is = ap (map reply_in) (filter-here (λ x. x.tag.index == index) e es (eq-eqb e.tag.index index is))

pub replies_at-other : (index : ℕ) (e : Entry) (es : List Entry) → e.tag.index ≢ index → replies_at index (e ∷ es) ≡ replies_at index es
replies_at-other index e es other = ap (map reply_in) (filter-other (λ x. x.tag.index == index) e es (ne_eqb e.tag.index index other))

pub replies_at-append : (index : ℕ) (xs ys : List Entry) → replies_at index (xs ++ ys) ≡ replies_at index xs ++ replies_at index ys
replies_at-append index xs ys =
    ap (map reply_in) (filter-append (λ x. x.tag.index == index) xs ys)
    ∙ map-append reply_in (filter (λ x. x.tag.index == index) xs) (filter (λ x. x.tag.index == index) ys)

pub replies_at-push : (index : ℕ) (es : List Entry) (e : Entry) → e.tag.index ≡ index → replies_at index (es ++ e ∷ []) ≡ replies_at index es ++ e.reply ∷ []
replies_at-push index es e is = replies_at-append index es (e ∷ []) ∙ ap (λ l. replies_at index es ++ l) (replies_at-here index e [] is)

pub replies_at-push_other : (index : ℕ) (es : List Entry) (e : Entry) → e.tag.index ≢ index → replies_at index (es ++ e ∷ []) ≡ replies_at index es
replies_at-push_other index es e other =
    replies_at-append index es (e ∷ []) ∙ ap (λ l. replies_at index es ++ l) (replies_at-other index e [] other) ∙ append-nil (replies_at index es)

-- ---- what holds of each entry

pub AreAt-push : (shard : ℕ) (es : List Entry) (e : Entry) → AreAt shard es → e.shard ≡ shard → AreAt shard (es ++ e ∷ [])
AreAt-push shard [] e place here = (here, tt)
AreAt-push shard (x ∷ xs) e place here = (place.0, AreAt-push shard xs e place.1 here)

pub AreBelow-push : (shards : ℕ) (es : List Entry) (e : Entry) → AreBelow shards es → e.shard < shards → AreBelow shards (es ++ e ∷ [])
AreBelow-push shards [] e below within = (within, tt)
AreBelow-push shards (x ∷ xs) e below within = (below.0, AreBelow-push shards xs e below.1 within)

pub AreBelow-parts : (shards : ℕ) (xs ys : List Entry) → AreBelow shards (xs ++ ys) → AreBelow shards xs × AreBelow shards ys
AreBelow-parts shards [] ys below = (tt, below)
AreBelow-parts shards (x ∷ xs) ys below = let rest = AreBelow-parts shards xs ys below.1 in ((below.0, rest.0), rest.1)

pub AreAnswers-push : (es : List Entry) (e : Entry) → AreAnswers es → MayAnswer e.call e.reply → AreAnswers (es ++ e ∷ [])
AreAnswers-push [] e kinds kind = (kind, tt)
AreAnswers-push (x ∷ xs) e kinds kind = (kinds.0, AreAnswers-push xs e kinds.1 kind)

-- ---- stamps

pub last_stamp-push : (before : ℕ) (es : List Entry) (e : Entry) → last_stamp before (es ++ e ∷ []) ≡ e.stamp
last_stamp-push before [] e = refl
last_stamp-push before (x ∷ xs) e = last_stamp-push x.stamp xs e

pub StampsRise-push : (before : ℕ) (es : List Entry) (e : Entry) → StampsRise before es → last_stamp before es < e.stamp → StampsRise before (es ++ e ∷ [])
StampsRise-push before [] e stamps above = (above, tt)
StampsRise-push before (x ∷ xs) e stamps above = (stamps.0, StampsRise-push x.stamp xs e stamps.1 above)

-- the last stamp is not below the one before all
pub last_stamp-rises : (before : ℕ) (es : List Entry) → StampsRise before es → before ≤ last_stamp before es
last_stamp-rises before [] stamps = omega arith
last_stamp-rises before (e ∷ es) stamps = let above = stamps.0 in let rest = last_stamp-rises e.stamp es stamps.1 in omega arith

-- a list is no longer than its stamps have risen
pub StampsRise-length : (before : ℕ) (es : List Entry) → StampsRise before es → before + length es ≤ last_stamp before es
StampsRise-length before [] rise = omega arith
StampsRise-length before (e ∷ es) rise =
    let rest = StampsRise-length e.stamp es rise.1 in
    let above = rise.0 in
    omega (arith, rest, above)

-- where the last of rising stamps is below a limit, all are
pub AreStampsBelow-last : (before limit : ℕ) (es : List Entry) → StampsRise before es → last_stamp before es < limit → AreStampsBelow limit es
AreStampsBelow-last before limit [] stamps below = tt
AreStampsBelow-last before limit (e ∷ es) stamps below =
    ((let rest = last_stamp-rises e.stamp es stamps.1 in omega arith), AreStampsBelow-last e.stamp limit es stamps.1 below)
