-- The number of each refusal, and the code and the number of an answer. Assumes nothing.
use Rattle.std.specs.Prelude.{ℕ, ◌≡◌, Result, Ok, Err}
use Rattle.codes.specs.declared.Refusal.{Refusal}
use Rattle.codes.specs.declared.Refusal.TheVariants.{NotSupported, InvalidChannelId, InvalidProtocolId, NullParameter, InvalidIoctlValue, InvalidFlags, Failed, Timeout, InvalidMsg, InvalidTimeInterval, ExceededLimit, InvalidMsgId, InvalidIoctlId, BufferEmpty, BufferFull, BufferOverflow, PinInvalid, ChannelInUse, MsgProtocolId, InvalidFilterId, NoFlowControl, NotUnique, InvalidBaudrate, InvalidDeviceId}

-- the code of a refusal
abbrev pub number_of : Refusal → ℕ
number_of NotSupported = 0x01
number_of InvalidChannelId = 0x02
number_of InvalidProtocolId = 0x03
number_of NullParameter = 0x04
number_of InvalidIoctlValue = 0x05
number_of InvalidFlags = 0x06
number_of Failed = 0x07
number_of Timeout = 0x09
number_of InvalidMsg = 0x0A
number_of InvalidTimeInterval = 0x0B
number_of ExceededLimit = 0x0C
number_of InvalidMsgId = 0x0D
number_of InvalidIoctlId = 0x0F
number_of BufferEmpty = 0x10
number_of BufferFull = 0x11
number_of BufferOverflow = 0x12
number_of PinInvalid = 0x13
number_of ChannelInUse = 0x14
number_of MsgProtocolId = 0x15
number_of InvalidFilterId = 0x16
number_of NoFlowControl = 0x17
number_of NotUnique = 0x18
number_of InvalidBaudrate = 0x19
number_of InvalidDeviceId = 0x1A

-- what the number of a refusal is made by
abbrev pub GivesNumber : Refusal → ℕ → Type 0
GivesNumber refusal code = code ≡ number_of refusal

-- the code of an answer: 0x00 where it is no refusal
abbrev pub code_of : {T : Type 0} → Result T Refusal → ℕ
code_of (Ok value) = 0x00
code_of (Err refusal) = number_of refusal

-- the number that an answer gives, 0 where it is a refusal
abbrev pub value_of : Result ℕ Refusal → ℕ
value_of (Ok value) = value
value_of (Err refusal) = 0
