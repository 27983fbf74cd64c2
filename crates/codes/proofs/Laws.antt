-- No refusal has the code of what was done. Assumes nothing.
use mathlib.Core.Path.{◌≡◌}
use Rattle.codes.specs.declared.Refusal.{Refusal}
use Rattle.codes.specs.declared.Refusal.TheVariants.{NotSupported, InvalidChannelId, InvalidProtocolId, NullParameter, InvalidIoctlValue, InvalidFlags, Failed, Timeout, InvalidMsg, InvalidTimeInterval, ExceededLimit, InvalidMsgId, InvalidIoctlId, BufferEmpty, BufferFull, BufferOverflow, PinInvalid, ChannelInUse, MsgProtocolId, InvalidFilterId, NoFlowControl, NotUnique, InvalidBaudrate, InvalidDeviceId}
use Rattle.codes.specs.Code.{number_of}
use native.Mathlib.Omega.{arith}

pub not_done : (refusal : Refusal) → number_of refusal ≡ 0 → ⊥
not_done NotSupported e = omega arith
not_done InvalidChannelId e = omega arith
not_done InvalidProtocolId e = omega arith
not_done NullParameter e = omega arith
not_done InvalidIoctlValue e = omega arith
not_done InvalidFlags e = omega arith
not_done Failed e = omega arith
not_done Timeout e = omega arith
not_done InvalidMsg e = omega arith
not_done InvalidTimeInterval e = omega arith
not_done ExceededLimit e = omega arith
not_done InvalidMsgId e = omega arith
not_done InvalidIoctlId e = omega arith
not_done BufferEmpty e = omega arith
not_done BufferFull e = omega arith
not_done BufferOverflow e = omega arith
not_done PinInvalid e = omega arith
not_done ChannelInUse e = omega arith
not_done MsgProtocolId e = omega arith
not_done InvalidFilterId e = omega arith
not_done NoFlowControl e = omega arith
not_done NotUnique e = omega arith
not_done InvalidBaudrate e = omega arith
not_done InvalidDeviceId e = omega arith
