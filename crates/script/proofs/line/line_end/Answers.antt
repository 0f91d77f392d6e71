-- The first newline in what is filled ends the line, and a carriage return before it belongs to the end. Assumes nothing.
use native.Mathlib.Omega.{arith}
use Rattle.script.proofs.Lines.{end_empty, end_below, end_none, end_short, end_return, end-plain}
use Rattle.script.proofs.line.line_end.Goals.{else-from-newline-via-then-from-newline+else-buf-newline-eq13, else-from-newline-via-else-from-newline}
use Rattle.script.proofs.line.line_end.Goals as goal

pub returns-then-stop-from : goal.returns-then-stop-from
returns-then-stop-from c =
    let a = c.args in
    end_empty a.buf.now a.from a.to c.min-stop.result c.min-stop.ensures c.if-stop-from.true

pub returns-then-newline-stop : goal.returns-then-newline-stop
returns-then-newline-stop c =
    let a = c.args in
    let s = c.min-stop in
    let f = c.find_byte-newline in
    end_none a.buf.now a.from a.to s.result s.ensures c.if-stop-from.false f.result f.ensures c.if-newline-stop.true

pub overflow_add-next : goal.overflow_add-next
overflow_add-next c =
    let a = c.args in
    let s = c.min-stop in
    let f = c.find_byte-newline in
    omega (arith, s.ensures, end_below a.buf.now a.from a.to s.result s.ensures c.if-stop-from.false f.result f.ensures, c.if-newline-stop.false)

pub bounds-buf-newline : goal.bounds-buf-newline
bounds-buf-newline c =
    let a = c.args in
    let s = c.min-stop in
    let f = c.find_byte-newline in
    omega (arith, s.ensures, end_below a.buf.now a.from a.to s.result s.ensures c.if-stop-from.false f.result f.ensures, c.if-from-newline.true)

pub returns-then-buf-newline-eq13 : goal.returns-then-buf-newline-eq13
returns-then-buf-newline-eq13 c =
    let a = c.args in
    let s = c.min-stop in
    let f = c.find_byte-newline in
    end_return a.buf.now a.from a.to s.result s.ensures c.if-stop-from.false f.result f.ensures c.if-newline-stop.false c.if-from-newline.true c.if-buf-newline-eq13.true

pub returns : goal.returns
returns c =
    let a = c.args in
    let s = c.min-stop in
    let f = c.find_byte-newline in
    elim c.else-from-newline.branch [
      | else-from-newline-via-then-from-newline+else-buf-newline-eq13 w ↦
          end-plain a.buf.now a.from a.to s.result s.ensures c.if-stop-from.false f.result f.ensures c.if-newline-stop.false w.if-from-newline.true w.if-buf-newline-eq13.false
      | else-from-newline-via-else-from-newline w ↦
          end_short a.buf.now a.from a.to s.result s.ensures c.if-stop-from.false f.result f.ensures c.if-newline-stop.false w.if-from-newline.false
    ]
