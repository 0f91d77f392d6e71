-- Events written one behind the other. Assumes nothing.
use Rattle.std.proofs.Common.{◌≡◌, ℕ, ◌+◌, ◌*◌, ◌≤◌, List, [], ◌∷◌, ◌++◌, length, sym, refl, ap, ◌∙◌, append_assoc, append-nil, add-zero, arith, length-append}
use Rattle.wire.specs.declared.event.Event.{Event}
use Rattle.wire.specs.Bits.{splice, widths}
use Rattle.wire.specs.Record.{layout, text_of, fixed_length, record_length, event_record}
use Rattle.wire.specs.Put.{PutWhole}
use Rattle.wire.proofs.Splices.{splice-none, splice-splice, fitted_all}
use Rattle.wire.proofs.Records.{length_record}
use Rattle.model.specs.Edit.{next_serial, raised}
use Rattle.model.specs.Plan.{Sent, on, records}
use Rattle.model.specs.Decide.{destroyed}
use Rattle.events.specs.declared.Mark.{Mark}
use Rattle.events.specs.Events.{Sends, Destroys}

-- ---- any events

pub records-append : (xs ys : List Sent) → records (xs ++ ys) ≡ records xs ++ records ys
unfolding records
records-append [] ys = refl
records-append (e ∷ xs) ys =
    ap (λ (l : List ℕ). event_record e.object e.event e.text ++ l) (records-append xs ys)
    ∙ sym (append_assoc (event_record e.object e.event e.text) (records xs) (records ys))

records_one : (object : ℕ) (e : Event) (text : List ℕ) → records (record { object = object; event = e; text = text } ∷ []) ≡ event_record object e text
unfolding records
records_one object e text = append-nil (event_record object e text)

pub one_length : (object : ℕ) (e : Event) (text : List ℕ) → length (records (record { object = object; event = e; text = text } ∷ [])) ≡ record_length e text
one_length object e text = ap length (records_one object e text) ∙ length_record object e text

-- events, then others
pub append-length : (xs ys : List Sent) → length (records (xs ++ ys)) ≡ length (records xs) + length (records ys)
append-length xs ys = ap length (records-append xs ys) ∙ length-append (records xs) (records ys)

-- one event, then others
pub cons-length : (object : ℕ) (e : Event) (n : ℕ) (es : List Sent) → record_length e [] ≡ n → length (records (on object e ∷ es)) ≡ n + length (records es)
cons-length object e n es h = append-length (on object e ∷ []) es ∙ ap (λ (k : ℕ). k + length (records es)) (one_length object e [] ∙ h)

pub sends_none : (out : List ℕ) (at : ℕ) → Sends out out at [] at
unfolding records
sends_none out at = record { bytes = sym (splice-none out at); next = sym (add-zero at) }

pub sends_one : {out later : List ℕ} {at object r : ℕ} {e : Event} {text : List ℕ} → at + record_length e text ≤ length out → PutWhole out later at (event_record object e text) r
    → Sends out later at (record { object = object; event = e; text = text } ∷ []) (at + r)
sends_one {out} {later} {at} {object} {r} {e} {text} room p =
    let f = fitted_all out at (event_record object e text) (omega (arith, length_record object e text)) in
    record {
      bytes = p.buffer ∙ ap (splice out at) (f ∙ sym (records_one object e text));
      next = ap (λ (n : ℕ). at + n) (p.count ∙ ap length (f ∙ sym (records_one object e text)));
    }

-- more behind them, where there is room
pub sends_join : {out mid later : List ℕ} {at b r : ℕ} {xs ys : List Sent} → b + length (records ys) ≤ length out → Sends out mid at xs b → Sends mid later b ys r
    → Sends out later at (xs ++ ys) r
sends_join {out} {mid} {later} {at} {b} {r} {xs} {ys} room p q =
    let n = p.next in
    let j = splice-splice out at (records xs) (records ys) (omega arith) in
    let l = length-append (records xs) (records ys) in
    record {
      bytes = q.bytes ∙ rw (p.bytes, n) j ∙ ap (splice out at) (sym (records-append xs ys));
      next = q.next ∙ rw (records-append xs ys) (omega arith);
    }

-- Some of the events are written, and there is room for the rest.
pub record Partly (out later : List ℕ) (from at : ℕ) (all rest : List Sent) : Type 0 where
  pub done : List Sent
  pub split : all ≡ done ++ rest
  pub sends : Sends out later from done at
  pub room : at + length (records rest) ≤ length out
  pub long : length later ≡ length out

pub partly_none : (out : List ℕ) (from : ℕ) {all rest : List Sent} → all ≡ rest → from + length (records rest) ≤ length out → Partly out out from from all rest
partly_none out from e room = record { done = []; split = e; sends = sends_none out from; room = room; long = refl }

module _ {out mid : List ℕ} {from at : ℕ} {all left : List Sent} (es rest : List Sent) (next : left ≡ es ++ rest) (p : Partly out mid from at all left) where
  pub partly_room : at + length (records es) ≤ length mid
  partly_room = omega (arith, p.room, p.long, ap (λ (l : List Sent). length (records l)) next, append-length es rest)

  pub partly_more : {later : List ℕ} {r : ℕ} → length later ≡ length mid → Sends mid later at es r → Partly out later from r all rest
  partly_more l s =
      let k = ap (λ (l : List Sent). length (records l)) next ∙ append-length es rest in
      record {
        done = p.done ++ es;
        split = p.split ∙ ap (λ (l : List Sent). p.done ++ l) next ∙ sym (append_assoc p.done es rest);
        sends = sends_join (omega (arith, p.room)) p.sends s;
        room = omega (arith, p.room, s.next);
        long = l ∙ p.long;
      }

pub partly_last : {out later : List ℕ} {from at : ℕ} {all rest : List Sent} → rest ≡ [] → Partly out later from at all rest → Sends out later from all at
partly_last e p = rw (p.split ∙ ap (λ (l : List Sent). p.done ++ l) e ∙ append-nil p.done) p.sends

-- ---- destroyed

destroyed-room : (serial : ℕ) (text : List ℕ) → record_length (Event.Destroyed serial) text ≡ 14
unfolding record_length fixed_length text_of layout widths
destroyed-room serial text = refl

pub destroyed-fits : (at n serial : ℕ) (text : List ℕ) → at + 14 ≤ n → at + record_length (Event.Destroyed serial) text ≤ n
destroyed-fits at n serial text h = omega (arith, destroyed-room serial text)

pub destroyed-length : (n : ℕ) (objects : List ℕ) → length (records (destroyed n objects)) ≡ 14 * length objects
unfolding records destroyed
destroyed-length n [] = refl
destroyed-length n (o ∷ os) =
    cons-length o (Event.Destroyed (next_serial n)) 14 (destroyed (next_serial n) os) (destroyed-room (next_serial n) [])
    ∙ omega (arith, destroyed-length (next_serial n) os)

destroyed-append : (n : ℕ) (xs ys : List ℕ) → destroyed n (xs ++ ys) ≡ destroyed n xs ++ destroyed (raised (length xs) n) ys
unfolding destroyed raised
destroyed-append n [] ys = refl
destroyed-append n (o ∷ os) ys = ap (λ (l : List Sent). on o (Event.Destroyed (next_serial n)) ∷ l) (destroyed-append (next_serial n) os ys)

raised-append : (n : ℕ) (xs ys : List ℕ) → raised (length (xs ++ ys)) n ≡ raised (length ys) (raised (length xs) n)
unfolding raised
raised-append n [] ys = refl
raised-append n (o ∷ os) ys = raised-append (next_serial n) os ys

pub destroys-none : (out : List ℕ) (mark : Mark) → Destroys out out mark [] mark
unfolding records destroyed raised
destroys-none out mark = record { bytes = sym (splice-none out mark.at); at = omega arith; serial = omega arith }

pub destroys_one : {out later : List ℕ} {mark : Mark} {object serial r : ℕ} → serial ≡ next_serial mark.serial
    → Sends out later mark.at (on object (Event.Destroyed serial) ∷ []) r → Destroys out later mark (object ∷ []) (record { at = r; serial = serial })
unfolding destroyed raised
destroys_one {out} {later} {mark} {object} {serial} {r} e s =
    record {
      bytes = s.bytes ∙ ap (λ (n : ℕ). splice out mark.at (records (on object (Event.Destroyed n) ∷ []))) e;
      at = s.next ∙ omega (arith, one_length object (Event.Destroyed serial) [], destroyed-room serial []);
      serial = e;
    }

pub destroys_join : {out mid later : List ℕ} {mark v r : Mark} {xs ys : List ℕ} → v.at + 14 * length ys ≤ length out → Destroys out mid mark xs v
    → Destroys mid later v ys r → Destroys out later mark (xs ++ ys) r
destroys_join {out} {mid} {later} {mark} {v} {r} {xs} {ys} room p q =
    let s : ℕ = mark.serial in
    let t : ℕ = raised (length xs) s in
    let a = destroyed-length s xs in
    let b = destroyed-length t ys in
    let n : v.at ≡ mark.at + length (records (destroyed s xs)) = omega (arith, p.at) in
    let j = splice-splice out mark.at (records (destroyed s xs)) (records (destroyed t ys)) (omega (arith, p.at)) in
    record {
      bytes =
          q.bytes ∙ rw (p.bytes, n, p.serial) j
          ∙ ap (splice out mark.at) (sym (ap records (destroyed-append s xs ys) ∙ records-append (destroyed s xs) (destroyed t ys)));
      at = q.at ∙ omega (arith, p.at, length-append xs ys);
      serial = q.serial ∙ ap (raised (length ys)) p.serial ∙ sym (raised-append s xs ys);
    }

-- the serial of the last event
pub last_is : {out later : List ℕ} {mark v : Mark} {objects : List ℕ} {n : ℕ} → Destroys out later mark objects v → mark.serial ≡ n
    → v.serial ≡ raised (length objects) n
last_is {objects = objects} p e = p.serial ∙ ap (raised (length objects)) e

pub destroys-sends : {out later : List ℕ} {mark r : Mark} {objects : List ℕ} → Destroys out later mark objects r
    → Sends out later mark.at (destroyed mark.serial objects) r.at
destroys-sends {mark = mark} {objects = objects} d =
    record { bytes = d.bytes; next = omega (arith, d.at, destroyed-length mark.serial objects) }

-- Some of the objects are written, and there is room for the rest.
pub record Going (out later : List ℕ) (from v : Mark) (all rest : List ℕ) : Type 0 where
  pub done : List ℕ
  pub split : all ≡ done ++ rest
  pub destroys : Destroys out later from done v
  pub room : v.at + 14 * length rest ≤ length out
  pub long : length later ≡ length out

pub going_none : (out : List ℕ) (from : Mark) {all rest : List ℕ} → all ≡ rest → from.at + 14 * length rest ≤ length out → Going out out from from all rest
going_none out from e room = record { done = []; split = e; destroys = destroys-none out from; room = room; long = refl }

module _ {out mid : List ℕ} {from v : Mark} {object : ℕ} {all left rest : List ℕ} (next : left ≡ object ∷ rest) (p : Going out mid from v all left) where
  pub going_room : v.at + 14 ≤ length mid
  going_room = omega (arith, p.room, p.long, ap length next)

  pub going_more : {later : List ℕ} {r : Mark} → length later ≡ length mid → Destroys mid later v (object ∷ []) r → Going out later from r all rest
  going_more l d =
      record {
        done = p.done ++ (object ∷ []);
        split = p.split ∙ ap (λ (l : List ℕ). p.done ++ l) next ∙ sym (append_assoc p.done (object ∷ []) rest);
        destroys = destroys_join (omega (arith, p.room, ap length next)) p.destroys d;
        room = omega (arith, p.room, d.at, ap length next);
        long = l ∙ p.long;
      }

pub going_last : {out later : List ℕ} {from v : Mark} {all : List ℕ} → Going out later from v all [] → Destroys out later from all v
going_last p = rw (p.split ∙ append-nil p.done) p.destroys
