-- An accepted message is its request, handed in as a record. Only a Sync differs: as a message it keeps the callback's id. Assumes nothing.
use Prim.Native.Nat.{ℕ}
use mathlib.Core.Path.{◌≡◌, refl, sym, ap, subst, ◌∙◌}
use mathlib.Core.Bool.{Bool, true, false, cond, true≢false}
use mathlib.Core.List.{List}
use mathlib.Core.Option.{Option, none, some}
use borrow.Author.Tests.{eqb-true}
use lib.Dec.{eqb, ltb}
use lib.ListN.{length, take}
use Rattle.wire.specs.declared.ParseError.{ParseError}
use Rattle.parse.specs.Parse.{le64}
use Rattle.std.specs.Prelude.{Ok, Err, Some}
use Rattle.std.specs.Prelude as rust
use Rattle.parse.specs.First as parse
use Rattle.parse.specs.First.{ReadFirst, first_of}
use Rattle.parse.specs.declared.Arguments.{Arguments}
use Rattle.requests.specs.Row.{low}
use Rattle.lent_read.specs.Numbers.{request_of}
use Rattle.handlers.specs.Call.{call_of}
use Rattle.model.specs.Call.{Input, Load, Plain, Call, split}
use Rattle.model.specs.Session.{Session, View, view}
use Rattle.model.specs.Edit.{Edit, enact}
use Rattle.model.specs.Plan.{refusal}
use Rattle.model.specs.Decide.{is_peer_id}
use Rattle.model.specs.Step.{Step, refuses, unchanged, step}
use Rattle.model.specs.Live.{Object, live}
use Rattle.client_requests.proofs.Peers.{peered, plainly, message, not_mine, both}
use Rattle.model_reads.specs.Message.{Reading}
use Rattle.messages.specs.Reading.{request_in, text_in, call_in, read_as, reading_on, reading_of, reading}
use Rattle.messages.specs.Single.{but_peer, AsRecord, MessageIsCall}

-- ---- a Sync

peered_but : (id : ℕ) (r : Step Load) → but_peer (peered id r) ≡ but_peer r
unfolding but_peer peered enact
peered_but id r = go (refuses r.outcome)
  where
    go : (b : Bool) → but_peer (cond b r (record { session = enact (Edit.peer_object id) Load.None r.session; outcome = r.outcome; events = r.events; gave = r.gave })) ≡ but_peer r
    go true = refl
    go false = refl

sync_same : (s : Session Load) (callback version now room : ℕ) → refuses (step (message s callback version now room) s).outcome ≡ false
    → but_peer (step (message s callback version now room) s) ≡ but_peer (step (plainly s callback version now room) s)
unfolding unchanged refuses refusal
sync_same s callback version now room fine = go (is_peer_id (view s) callback) refl
  where
    go : (b : Bool) → is_peer_id (view s) callback ≡ b → but_peer (step (message s callback version now room) s) ≡ but_peer (step (plainly s callback version now room) s)
    go true mine = ap but_peer (both s callback version now room mine) ∙ peered_but callback (step (plainly s callback version now room) s)
    go false other = absurd (true≢false (sym (ap (λ (x : Step Load). refuses x.outcome) (not_mine s callback version now room other)) ∙ fine))

-- ---- what a message stands for

-- the request of the arguments that were read, on the object that is alive
record Stands (v : View) (bytes : List ℕ) (n : ℕ) (call : Call Input) : Type 0 where
  object : Object
  arguments : Arguments
  alive : live v (le64 bytes 0) ≡ some object
  read : first_of object.interface bytes ≡ parse.read arguments n
  is : call ≡ call_in arguments (le64 bytes 0) object.version (take n bytes)

data Standing (v : View) (bytes : List ℕ) : Reading (Call Input) → Type 0 where
  wait : Standing v bytes Reading.wait
  no_object : Standing v bytes Reading.no_object
  malformed : (e : ParseError) → Standing v bytes (Reading.malformed e)
  request : (call : Call Input) (n : ℕ) → Stands v bytes n call → Standing v bytes (Reading.request call n)

module _ (v : View) (m : List ℕ) where
  read-stands : (o : Object) → live v (le64 m 0) ≡ some o → (r : ReadFirst) → first_of o.interface m ≡ r → Standing v m (read_as (le64 m 0) o.version m r)
  unfolding read_as
  read-stands o e (Ok rust.None) q = Standing.wait
  read-stands o e (Err p) q = Standing.malformed p
  read-stands o e (Ok (Some f)) q = Standing.request _ f.length (record { object = o; arguments = f.arguments; alive = e; read = q; is = refl })

  object-stands : (o : Option Object) → live v (le64 m 0) ≡ o → Standing v m (reading_of (le64 m 0) o m)
  unfolding reading_of reading_on
  object-stands none e = Standing.no_object
  object-stands (some o) e = read-stands o e (first_of o.interface m) refl

  message-stands : Standing v m (reading v m)
  unfolding reading
  message-stands = go (ltb (length m) 16) (object-stands (live v (le64 m 0)) refl)
    where
      go : (b : Bool) → Standing v m (reading_of (le64 m 0) (live v (le64 m 0)) m) → Standing v m (cond b Reading.wait (reading_of (le64 m 0) (live v (le64 m 0)) m))
      go true h = Standing.wait
      go false h = h

-- its call, as a record
as_record_lem : (a : Arguments) (object version : ℕ) (m : List ℕ) (now room : ℕ) (s : Session Load)
    → refuses (step (split (record { call = call_in a object version m; now = now; room = room })) s).outcome ≡ false
    → but_peer (step (split (record { call = call_in a object version m; now = now; room = room })) s)
    ≡ but_peer (step (split (record { call = call_of (request_in a) object version (text_in a m); now = now; room = room })) s)
unfolding call_in request_in request_of
as_record_lem a object version m now room s fine = go (eqb a.request 5) refl fine
  where
    chosen : Bool → Call Input
    chosen b = cond b (Call.plain (Plain.sync_message a.first (low a.second))) (call_of (request_in a) object version (text_in a m))

    go : (b : Bool) → eqb a.request 5 ≡ b → refuses (step (split (record { call = chosen b; now = now; room = room })) s).outcome ≡ false
        → but_peer (step (split (record { call = chosen b; now = now; room = room })) s)
        ≡ but_peer (step (split (record { call = call_of (request_in a) object version (text_in a m); now = now; room = room })) s)
    go true e f = rw (eqb-true a.request 5 e) (sync_same s a.first (low a.second) now room f)
    go false e f = refl

pub message_is_call : MessageIsCall
message_is_call s bytes now room call n e fine = go (subst (Standing (view s) bytes) e (message-stands (view s) bytes))
  where
    go : Standing (view s) bytes (Reading.request call n) → AsRecord s bytes n call now room
    go (Standing.request c k t) =
        let f : refuses (step (split (record { call = call_in t.arguments (le64 bytes 0) t.object.version (take n bytes); now = now; room = room })) s).outcome ≡ false =
        rw (← t.is) fine
        in
        record {
          object = t.object;
          arguments = t.arguments;
          alive = t.alive;
          read = t.read;
          same = rw t.is (as_record_lem t.arguments (le64 bytes 0) t.object.version (take n bytes) now room s f);
        }
