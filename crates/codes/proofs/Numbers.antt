-- Laws on codes: a refusal is known by its code, and an answer of a number by its code and its number. Assumes nothing.
use Rattle.std.specs.Prelude.{if◌then◌else◌, Result, Ok, Err}
use Prim.Native.Nat.{ℕ}
use mathlib.Core.Path.{◌≡◌, refl}
use lib.Dec.{eqb}
use Rattle.codes.specs.declared.Refusal.{Refusal}
use Rattle.codes.specs.declared.Refusal.TheVariants.{NotSupported, InvalidChannelId, InvalidProtocolId, NullParameter, InvalidIoctlValue, InvalidFlags, Failed, Timeout, InvalidMsg, InvalidTimeInterval, ExceededLimit, InvalidMsgId, InvalidIoctlId, BufferEmpty, BufferFull, BufferOverflow, PinInvalid, ChannelInUse, MsgProtocolId, InvalidFilterId, NoFlowControl, NotUnique, InvalidBaudrate, InvalidDeviceId}
use Rattle.codes.specs.Code.{number_of, code_of, value_of}

-- the refusal of a code
pub refusal_of : ℕ → Refusal
refusal_of n =
    if eqb n 0x01 then NotSupported
    else if eqb n 0x02 then InvalidChannelId
    else if eqb n 0x03 then InvalidProtocolId
    else if eqb n 0x04 then NullParameter
    else if eqb n 0x05 then InvalidIoctlValue
    else if eqb n 0x06 then InvalidFlags
    else if eqb n 0x07 then Failed
    else if eqb n 0x09 then Timeout
    else if eqb n 0x0A then InvalidMsg
    else if eqb n 0x0B then InvalidTimeInterval
    else if eqb n 0x0C then ExceededLimit
    else if eqb n 0x0D then InvalidMsgId
    else if eqb n 0x0F then InvalidIoctlId
    else if eqb n 0x10 then BufferEmpty
    else if eqb n 0x11 then BufferFull
    else if eqb n 0x12 then BufferOverflow
    else if eqb n 0x13 then PinInvalid
    else if eqb n 0x14 then ChannelInUse
    else if eqb n 0x15 then MsgProtocolId
    else if eqb n 0x16 then InvalidFilterId
    else if eqb n 0x17 then NoFlowControl
    else if eqb n 0x18 then NotUnique
    else if eqb n 0x19 then InvalidBaudrate
    else InvalidDeviceId

pub refusal_of_number : (x : Refusal) → refusal_of (number_of x) ≡ x
unfolding refusal_of
refusal_of_number NotSupported = refl
refusal_of_number InvalidChannelId = refl
refusal_of_number InvalidProtocolId = refl
refusal_of_number NullParameter = refl
refusal_of_number InvalidIoctlValue = refl
refusal_of_number InvalidFlags = refl
refusal_of_number Failed = refl
refusal_of_number Timeout = refl
refusal_of_number InvalidMsg = refl
refusal_of_number InvalidTimeInterval = refl
refusal_of_number ExceededLimit = refl
refusal_of_number InvalidMsgId = refl
refusal_of_number InvalidIoctlId = refl
refusal_of_number BufferEmpty = refl
refusal_of_number BufferFull = refl
refusal_of_number BufferOverflow = refl
refusal_of_number PinInvalid = refl
refusal_of_number ChannelInUse = refl
refusal_of_number MsgProtocolId = refl
refusal_of_number InvalidFilterId = refl
refusal_of_number NoFlowControl = refl
refusal_of_number NotUnique = refl
refusal_of_number InvalidBaudrate = refl
refusal_of_number InvalidDeviceId = refl

-- the answer of a code and a value
pub answer_of : {T : Type 0} (code : ℕ) (value : T) → Result T Refusal
answer_of code value = if eqb code 0x00 then Ok value else Err (refusal_of code)

refused : {T : Type 0} (value : T) (x : Refusal) → answer_of (number_of x) value ≡ Err x
unfolding answer_of refusal_of
refused value NotSupported = refl
refused value InvalidChannelId = refl
refused value InvalidProtocolId = refl
refused value NullParameter = refl
refused value InvalidIoctlValue = refl
refused value InvalidFlags = refl
refused value Failed = refl
refused value Timeout = refl
refused value InvalidMsg = refl
refused value InvalidTimeInterval = refl
refused value ExceededLimit = refl
refused value InvalidMsgId = refl
refused value InvalidIoctlId = refl
refused value BufferEmpty = refl
refused value BufferFull = refl
refused value BufferOverflow = refl
refused value PinInvalid = refl
refused value ChannelInUse = refl
refused value MsgProtocolId = refl
refused value InvalidFilterId = refl
refused value NoFlowControl = refl
refused value NotUnique = refl
refused value InvalidBaudrate = refl
refused value InvalidDeviceId = refl

pub answer_of_codes : (r : Result ℕ Refusal) → answer_of (code_of r) (value_of r) ≡ r
unfolding answer_of
answer_of_codes (Ok value) = refl
answer_of_codes (Err refusal) = refused 0 refusal

pub done_of_code : (r : Result (Unit {0}) Refusal) → answer_of (code_of r) tt ≡ r
unfolding answer_of
done_of_code (Ok tt) = refl
done_of_code (Err refusal) = refused tt refusal
