-- "A whole message is handed on as the .. single request it stands for": what an accepted message comes to is what its request comes to, handed in as a record.
-- Assumes nothing.
use Rattle.std.specs.Prelude.{ℕ, ◌≡◌, false, List, take}
use Rattle.std.proofs.Math.Option.{some}
use Rattle.parse.specs.Parse.{le64}
use Rattle.parse.specs.First as parse
use Rattle.parse.specs.First.{first_of}
use Rattle.parse.specs.declared.Arguments.{Arguments}
use Rattle.handlers.specs.Call.{call_of}
use Rattle.model.specs.Call.{Input, Load, Call, split}
use Rattle.model.specs.Session.{Session, view}
use Rattle.model.specs.Edit.{objects_with, with_connection}
use Rattle.model.specs.Step.{Step, refuses, step}
use Rattle.model.specs.Live.{Object, live}
use Rattle.model_reads.specs.Message.{Reading}
use Rattle.messages.specs.Reading.{request_in, text_in, reading}

-- all but the last id that the client gave, which only a Sync as a message raises
unfoldable pub but_peer : Step Load → Step Load
unfolding objects_with with_connection
but_peer r =
    record {
      session = with_connection (objects_with 0 r.session.connection.gone r.session.connection) r.session;
      outcome = r.outcome;
      events = r.events;
      gave = r.gave;
    }

-- A message of n bytes that stands for a call: its object is alive, with this interface and version, its arguments were read by them, and the call comes to what the
-- request of the arguments comes to, on that object with its version, with the text that is a part of the message
pub record AsRecord (s : Session Load) (bytes : List ℕ) (n : ℕ) (call : Call Input) (now room : ℕ) : Type 0 where
  pub object : Object
  pub arguments : Arguments
  pub alive : live (view s) (le64 bytes 0) ≡ some object
  pub read : first_of object.interface bytes ≡ parse.read arguments n
  pub same : but_peer (step (split (record { call = call; now = now; room = room })) s)
      ≡ but_peer
      (step
      (split
      (record {
        call = call_of (request_in arguments) (le64 bytes 0) object.version (text_in arguments (take n bytes));
        now = now;
        room = room;
      }))
      s)

abbrev pub MessageIsCall : Type 0
MessageIsCall =
    (s : Session Load) (bytes : List ℕ) (now room : ℕ) (call : Call Input) (n : ℕ) → reading (view s) bytes ≡ Reading.request call n
    → refuses (step (split (record { call = call; now = now; room = room })) s).outcome ≡ false → AsRecord s bytes n call now room
