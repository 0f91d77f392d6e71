-- A kind's values, as the code goes by them: one table for both directions. Assumes nothing.
use Rattle.std.specs.Prelude.{ℕ, ◌+◌, Bool, true, false, cond, ◌&&◌, ◌||◌, List, [], ◌∷◌, ◌++◌, eqb, length, get_or}
use Rattle.eiproto.specs.Interface.{interface_name}
use Rattle.event_messages.specs.Message.{le, uint32, uint64, string, null}
use Rattle.event_messages.specs.Stands.{between, sendable_text}
use Rattle.event_messages.specs.declared.EventArgument.{EventArgument}
use Rattle.event_messages.specs.declared.EventArgument.TheVariants.{None, Uint32, Uint64, Interface, Reason, DeviceType, Text, Explanation}
use Rattle.event_messages.specs.declared.Shape.{Shape}
use Rattle.event_messages.specs.declared.Values.{Values}

-- ---- the table

abbrev pub shape : (first second third : EventArgument) → (swapped : Bool) → Shape
shape a b c swapped = record { first = a; second = b; third = c; swapped = swapped }

-- a kind's values in the record's order
abbrev pub row : (first second third : EventArgument) → Shape
row a b c = shape a b c false

abbrev pub no_shape : Shape
no_shape = row None None None

abbrev pub shapes : List Shape
shapes =
    no_shape
    -- seat, name, capability, done, destroyed, device, device type
    ∷ row Uint64 Uint32 None ∷ row Text None None ∷ row Uint64 Interface None ∷ no_shape ∷ row Uint32 None None ∷ row Uint64 Uint32 None
    ∷ row DeviceType None None
    -- interface, resumed, paused, start, stop, frame
    ∷ row Uint64 Interface Uint32 ∷ row Uint32 None None ∷ row Uint32 None None ∷ row Uint32 Uint32 None ∷ row Uint32 None None
    ∷ row Uint32 Uint64 None
    -- disconnected, callback done, handshake version, interface version, connection
    ∷ row Uint32 Reason Explanation ∷ row Uint64 None None ∷ row Uint32 None None ∷ row Interface Uint32 None ∷ shape Uint64 Uint32 Uint32 true
    ∷ []

unfoldable pub shape_of : (kind : ℕ) → Shape
shape_of kind = get_or shapes kind no_shape

-- ---- a value

-- its bytes in a record; a text's are behind them
abbrev pub width : EventArgument → ℕ
width None = 0
width Uint32 = 4
width Uint64 = 8
width Interface = 1
width Reason = 4
width DeviceType = 4
width Text = 0
width Explanation = 1

-- whether the record has a text
abbrev pub has_text : EventArgument → Bool
has_text None = false
has_text Uint32 = false
has_text Uint64 = false
has_text Interface = false
has_text Reason = false
has_text DeviceType = false
has_text Text = true
has_text Explanation = true

-- its bytes in a message
unfoldable pub sent : EventArgument → (value : ℕ) → (text : List ℕ) → List ℕ
unfolding le string
sent None x text = []
sent Uint32 x text = uint32 x
sent Uint64 x text = uint64 x
sent Interface x text = string (interface_name x)
sent Reason x text = uint32 x
sent DeviceType x text = uint32 x
sent Text x text = string text
sent Explanation x text = cond (eqb x 128) (string text) null

-- the byte before an explanation: the bit before "seven zero bits" is set, or there is no text
abbrev pub explains : (value size : ℕ) → Bool
explains x size = eqb x 128 || (eqb x 0 && eqb size 0)

-- the values that can be sent
abbrev pub allowed : EventArgument → (value size : ℕ) → Bool
allowed None x size = true
allowed Uint32 x size = true
allowed Uint64 x size = true
allowed Interface x size = between 1 12 x
allowed Reason x size = between 0 5 x
allowed DeviceType x size = between 1 2 x
allowed Text x size = true
allowed Explanation x size = explains x size

-- ---- a shape's values

abbrev pub values_of : (first second third : ℕ) → Values
values_of x y z = record { first = x; second = y; third = z }

abbrev pub textual : Shape → Bool
textual s = has_text s.first || has_text s.third

abbrev pub fixed_size : Shape → ℕ
fixed_size s = 10 + (width s.first + (width s.second + width s.third))

unfoldable pub sent_arguments : Shape → Values → (text : List ℕ) → List ℕ
unfolding sent
sent_arguments s v text =
    let a = sent s.first v.first text in
    let b = sent s.second v.second text in
    let c = sent s.third v.third text in
    cond s.swapped (b ++ (a ++ c)) (a ++ (b ++ c))

-- the values can be sent, and so can the text, which only some kinds have
unfoldable pub allowed_all : Shape → Values → (text : List ℕ) → Bool
unfolding sendable_text
allowed_all s v text =
    let n = length text in
    allowed s.first v.first n
    && (allowed s.second v.second n && (allowed s.third v.third n && ((textual s || eqb n 0) && sendable_text text)))
