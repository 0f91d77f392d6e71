-- The part of the texts that a record has. Assumes nothing.
use Prim.Native.Nat.{ℕ, ◌+◌}
use mathlib.Core.Path.{◌≡◌, refl, sym, subst}
use mathlib.Core.Bool.{Bool, true, false, cond, not, ◌||◌, false≢true}
use mathlib.Core.List.{List, []}
use mathlib.Core.Option.{Option, none, some}
use lib.Dec.{leb}
use lib.ListN.{length, take, drop}
use Rattle.requests.specs.declared.eis.HandshakeRequest.{HandshakeRequest}
use Rattle.requests.specs.declared.eis.TextRequest.{TextRequest}
use Rattle.requests.specs.declared.eis.InterfaceRequest.{InterfaceRequest}
use Rattle.requests.specs.declared.eis.Request.{Request}
use Rattle.model.specs.Call.{Input, Call}
use Rattle.model_reads.specs.Read.{Entry}
use Rattle.handlers.specs.Call.{call_of}
use Rattle.reads.specs.declared.record.RequestRecord.{RequestRecord}
use Rattle.reads.specs.Record.{has_text, entry_of, part_of}

-- a request without text is the same call whatever is lent
textless : (r : Request) (object version : ℕ) (t t' : List ℕ) → has_text r ≡ false → call_of r object version t ≡ call_of r object version t'
textless (Request.Handshake (HandshakeRequest.HandshakeVersion v)) o w t t' h = refl
textless (Request.Handshake HandshakeRequest.Finish) o w t t' h = refl
textless (Request.Handshake (HandshakeRequest.ContextType n)) o w t t' h = refl
textless (Request.Handshake HandshakeRequest.Name) o w t t' h = absurd (false≢true (sym h))
textless (Request.Handshake (HandshakeRequest.InterfaceVersion v)) o w t t' h = absurd (false≢true (sym h))
textless (Request.Connection r) o w t t' h = refl
textless Request.PingpongDone o w t t' h = refl
textless (Request.Seat r) o w t t' h = refl
textless (Request.Device r) o w t t' h = refl
textless (Request.Interface (InterfaceRequest.Pointer r)) o w t t' h = refl
textless (Request.Interface (InterfaceRequest.PointerAbsolute r)) o w t t' h = refl
textless (Request.Interface (InterfaceRequest.Scroll r)) o w t t' h = refl
textless (Request.Interface (InterfaceRequest.Button r)) o w t t' h = refl
textless (Request.Interface (InterfaceRequest.Keyboard r)) o w t t' h = refl
textless (Request.Interface (InterfaceRequest.Touchscreen r)) o w t t' h = refl
textless (Request.Interface (InterfaceRequest.Text TextRequest.Release)) o w t t' h = refl
textless (Request.Interface (InterfaceRequest.Text (TextRequest.Keysym k s))) o w t t' h = refl
textless (Request.Interface (InterfaceRequest.Text TextRequest.Utf8)) o w t t' h = absurd (false≢true (sym h))

module _ (lent : List ℕ) (x : RequestRecord) where
  -- the call with what is lent of the texts
  abbrev pub call_in : List ℕ → Call Input
  call_in t = call_of x.request x.object x.version t

  -- by whether the request has a text, and whether the part stays
  data Case : Option (List ℕ) → Entry (Call Input) → Type 0 where
    bad : Case none Entry.bad_part
    good : {t : List ℕ} → Case (some t) (Entry.request (call_in t))

  abbrev own : List ℕ
  own = take x.length (drop x.start lent)

  abbrev part_by : Bool → Bool → Option (List ℕ)
  part_by t l = cond t (cond l (some own) none) (some [])

  abbrev entry_by : Bool → Bool → Entry (Call Input)
  entry_by t l = cond (not t || l) (Entry.request (call_in own)) Entry.bad_part

  by_tests : (t l : Bool) → has_text x.request ≡ t → Case (part_by t l) (entry_by t l)
  by_tests true true t = Case.good
  by_tests true false t = Case.bad
  by_tests false l t =
      subst (λ (c : Call Input). Case (part_by false l) (Entry.request c)) (textless x.request x.object x.version [] own t) Case.good

  case_of : Case (part_of lent x) (entry_of lent x)
  unfolding part_of entry_of
  case_of = by_tests (has_text x.request) (leb (x.start + x.length) (length lent)) refl

  pub entry-bad : part_of lent x ≡ none → entry_of lent x ≡ Entry.bad_part
  entry-bad e = by_case (rw e at case_of)
    where
      by_case : {y : Entry (Call Input)} → Case none y → y ≡ Entry.bad_part
      by_case Case.bad = refl

  pub entry-call : (t : List ℕ) → part_of lent x ≡ some t → entry_of lent x ≡ Entry.request (call_in t)
  entry-call t e = by_case (rw e at case_of)
    where
      by_case : {y : Entry (Call Input)} → Case (some t) y → y ≡ Entry.request (call_in t)
      by_case Case.good = refl
