-- The loop passes slots with other ids. Assumes nothing.
use Rattle.std.proofs.Common.{ℕ, eqb, List, sym, ◌∙◌, arith, below_more, eq-eqb, ne_eqb}
use Rattle.control.specs.Control.{seat_count, seat_at, connection_of}
use Rattle.control.proofs.Tables.{tab-first, tab-first-none}
use Rattle.control.proofs.find_seat.Goals as goal

pub returns-then-seat_id-id : goal.returns-then-seat_id-id
unfolding connection_of
returns-then-seat_id-id c =
    let a = c.args in
    let w : List ℕ = a.control.now in
    sym (tab-first (λ x. eqb x.id a.id) (seat_count w) c.loop-k.k (seat_at w) (omega arith) (eq-eqb _ _ (sym c.seat_id.ensures ∙ c.if-seat_id-id.true)) c.loop-k.invariant)

pub loop-k-preserved : goal.loop-k-preserved
loop-k-preserved c = below_more _ _ c.loop-k.invariant (ne_eqb _ _ (λ e. c.if-seat_id-id.false (c.seat_id.ensures ∙ e)))

pub returns : goal.returns
unfolding connection_of
returns c =
    let a = c.args in
    let w : List ℕ = a.control.now in
    sym (tab-first-none (λ x. eqb x.id a.id) (seat_count w) (seat_at w) (λ j l. c.loop-k.invariant j (omega arith)))
