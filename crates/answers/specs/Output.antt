-- The scope's section "Recording": the bytes of the answer to an event. Assumes nothing.
use Rattle.std.specs.Prelude.{ℕ, ◌*◌, List, [], ◌++◌, eqb, take, if◌then◌else◌}
use Rattle.recording_sizes.specs.Sizes.{record_on}
use Rattle.number.specs.Number.{bytes_of}
use Rattle.machine.specs.Channel.{Call, disconnect, start_filter, start_flow, stop_filter, start_periodic, stop_periodic, write, read, take_next, sent, clear, get_parameter, set_parameter, last_error, get_list, set_list, on_raw, Answer}
use Rattle.machine.specs.Step.{Event, connect, call, frame, advance, close}

-- these bytes on 0x00, else none
unfoldable pub on_done : ℕ → List ℕ → List ℕ
on_done code more = if eqb code 0x00 then more else []

-- behind the code of a call on a channel: read and write always give the count, and read its records; on 0x00 a start gives the number, take the
-- record, get the value. No event asks for the last code, and none is a list of parameters or a call of a TP2.0 connection
unfoldable pub after_call : ℕ → Call → Answer → List ℕ
after_call channel disconnect a = []
after_call channel (start_filter t m p) a = on_done a.code (bytes_of a.value)
after_call channel (start_flow t m p f) a = on_done a.code (bytes_of a.value)
after_call channel (stop_filter n) a = []
after_call channel (start_periodic m i) a = on_done a.code (bytes_of a.value)
after_call channel (stop_periodic n) a = []
after_call channel (write n b) a = bytes_of a.value
after_call channel (read n b) a = bytes_of a.value ++ take (record_on channel * a.value) a.buffer
after_call channel (take_next b) a = on_done a.code (take (record_on channel) a.buffer)
after_call channel sent a = []
after_call channel (clear k) a = []
after_call channel (get_parameter p) a = on_done a.code (bytes_of a.value)
after_call channel (set_parameter p v) a = []
after_call channel last_error a = []
after_call channel (get_list ps) a = []
after_call channel (set_list ps) a = []
after_call channel (on_raw x) a = []

-- behind the code of an event: on 0x00 connect gives the channel
unfoldable pub after_code : Event → Answer → List ℕ
after_code (connect l p f r) a = on_done a.code (bytes_of a.value)
after_code (call k x) a = after_call k x a
after_code (frame l w n b) a = []
after_code (advance t) a = []
after_code close a = []

-- AN ANSWER is its code, and then those
unfoldable pub answer_bytes : Event → Answer → List ℕ
answer_bytes e a = bytes_of a.code ++ after_code e a

-- ---- the same in code and number, for the functions below the replay

-- the code, and a number on 0x00
abbrev pub numbered : ℕ → ℕ → List ℕ
numbered c v = bytes_of c ++ on_done c (bytes_of v)

-- the code and the count
abbrev pub counted : ℕ → ℕ → List ℕ
counted c v = bytes_of c ++ bytes_of v
