-- The words of private functions: what their contracts say on the way to those of the public ones. Nobody who takes the
-- public contracts has to read this file.
use Rattle.std.specs.Prelude.{◌≡◌, ℕ, ◌+◌, ◌<◌, ◌≤◌, ◌^◌, List, [], ◌∷◌, ◌++◌, length, map, replicate, Result, Ok, Err}
use Rattle.std.specs.Borrow.{Bor}
use Rattle.cdr_core.specs.declared.fault.Fault.{Fault}
use Rattle.cdr_core.specs.declared.order.Order.{Order}
use Rattle.cdr_core.specs.Cursor.{Position}
use Rattle.cdr_core.specs.Form.{Form}
use Rattle.cdr_core.specs.Parts.{long_value, octet_value, text_value, ulong_value, ulonglong_value}
use Rattle.cdr_core.specs.Private.{Keeps}
use Rattle.cdr_core.specs.Reading.{value_at}
use Rattle.cdr_core.specs.Value as value
use Rattle.cdr_core.specs.Value.{Value, Values, values}
use Rattle.cdr_core.specs.Writing.{octets_of, octets_of_all, IsWritable, PutsAll, Writing}
use Rattle.giop_core.specs.declared.error.WriteError.{WriteError}
use Rattle.giop_core.specs.declared.error.WriteError.TheVariants.{TooLong, Memory}
use Rattle.giop_core.specs.declared.ft.FtFields.{FtFields}
use Rattle.giop_core.specs.declared.header.MessageKind.{MessageKind}
use Rattle.giop_core.specs.declared.header.Version.{Version}
use Rattle.giop_core.specs.declared.ior_view.IorView.{IorView}
use Rattle.giop_core.specs.declared.request.RequestFields.{RequestFields}
use Rattle.giop_core.specs.declared.service_context.Contexts.{Contexts}
use Rattle.giop_core.specs.declared.target_address.Target.{Target}
use Rattle.giop_core.specs.Items.{contexts_left, item_at, list_value, reference_as, tagged_value}
use Rattle.giop_core.specs.Lent.{addressed_by}
use Rattle.giop_core.specs.Written.{message_octets, request_fields, target_of}

-- readers of parts

-- A call gives what reading gives, seen by view, and goes on to the place after it. After a fault the cursor isn't used
-- again.
abbrev pub Gives : {X Y E : Type 0} → (X → Y) → Result X E → Result (Y × ℕ × List ℕ) E → Position → Position → Type 0
Gives view (Ok x) read old new = (read ≡ Ok (view x, new.place, new.rest)) × (new.order ≡ old.order)
Gives view (Err f) read old new = read ≡ Err f

-- a call that reads a value of a type
abbrev pub Reads : {X : Type 0} → (X → Value) → Result X Fault → Form → Position → Position → Type 0
Reads view result t old new = Gives view result (value_at t old.order old.place old.rest) old new

-- the values of what readers lend: a tag and its octets, ..
abbrev pub lent_value : ℕ × Bor (List ℕ) → Value
lent_value x = tagged_value (item_at x)

-- .. service contexts, or profiles, ..
abbrev pub contexts_value : Contexts → Value
contexts_value c = list_value (contexts_left c)

-- .. three reserved octets, ..
abbrev pub three_value : List ℕ → Value
three_value octets = value.array (values (map octet_value octets))

-- .. a reference, ..
abbrev pub reference_value : IorView → Value
reference_value r = reference_as r.type_id.now (contexts_left r.profiles)

-- .. the index of a profile and the reference that has it, ..
abbrev pub selected_value : ℕ × IorView → Value
selected_value x = value.structure (values (ulong_value x.0 ∷ reference_value x.1 ∷ []))

-- .. a target, ..
abbrev pub target_value : Target → Value
target_value t = target_of (addressed_by t)

-- .. and the fields of FT_REQUEST
abbrev pub ft_value : FtFields → Value
ft_value f = value.structure (values (text_value f.client_id ∷ long_value f.retention_id ∷ ulonglong_value f.expiration ∷ []))

-- values too long for a message: their octets alone are more than a message size can count

abbrev pub IsLong : Value → Type 0
IsLong v = (order : Order) (o : ℕ) → 2 ^ 32 ≤ length (octets_of order v o)

abbrev pub AreLong : Values → Type 0
AreLong vs = (order : Order) (o : ℕ) → 2 ^ 32 ≤ length (octets_of_all order vs o)

-- a value can be written, or is too long
abbrev pub Checks : {A : Type 0} → Value → Result A WriteError → Type 0
Checks v (Ok x) = IsWritable v
Checks v (Err TooLong) = IsLong v
Checks v (Err Memory) = ⊥

-- writers that haven't undone what they did: where one fails, what there was still stands in front

-- a message with these octets after its header is appended
abbrev pub Adds : {A : Type 0} → Version → MessageKind → Order → List ℕ → Result A WriteError → List ℕ → List ℕ → Type 0
Adds version kind order after (Ok x) old new = (length after < 2 ^ 32) × (new ≡ old ++ message_octets version kind order after)
Adds version kind order after (Err TooLong) old new = (2 ^ 32 ≤ length after) × Keeps old new
Adds version kind order after (Err Memory) old new = Keeps old new

-- the start of a message, up to its fields: zeros stand in place of its header, and a writer goes on after them
abbrev pub Begins : Order → List Value → Result Writing WriteError → List ℕ → List ℕ → Type 0
Begins order fields (Ok w) old new = (new ≡ old ++ (replicate 12 0 ++ octets_of_all order (values fields) 12)) × (w ≡ record { order = order; at = 12; start = length old + 12 })
Begins order fields (Err TooLong) old new = AreLong (values fields) × Keeps old new
Begins order fields (Err Memory) old new = Keeps old new

-- octets by themselves are appended
abbrev pub AddsOctets : {A : Type 0} → List ℕ → Result A WriteError → List ℕ → List ℕ → Type 0
AddsOctets octets (Ok x) old new = (length octets < 2 ^ 32) × (new ≡ old ++ octets)
AddsOctets octets (Err TooLong) old new = (2 ^ 32 ≤ length octets) × Keeps old new
AddsOctets octets (Err Memory) old new = Keeps old new

-- fields are appended
abbrev pub PutsFields : {A E : Type 0} → Writing → List Value → Result A E → List ℕ → List ℕ → Type 0
PutsFields w fields (Ok x) old new = PutsAll w (values fields) old new
PutsFields w fields (Err e) old new = Keeps old new

-- the fields of a Request in a version, as its writers hand them on
abbrev pub fields_in : Version → RequestFields → List Value
fields_in version f = request_fields version f.request_id f.wish (addressed_by f.target.now) f.operation.now (map item_at f.contexts.now)

-- a cursor among the octets after a header, and these
pub record Finding : Type 0 where
  pub octets : List ℕ
  pub at : Position
