-- A session in bytes: its lines as bytes taken, and its replies as bytes written, both JSON (RFC 8259), one value a line.
use Rattle.std.specs.Prelude.{ℕ, List, Bool, map, flat_map}
use Rattle.std.specs.List.{list_any}
use Rattle.edge_io.specs.Line.{lines_of}
use Rattle.wire_json.specs.declared.message.WireStep.{WireStep}
use Rattle.wire_json.specs.declared.reply.Out.{Out}
use Rattle.wire_json.specs.Message.{read_message}
use Rattle.wire_json.specs.Reply.{reply_text}
use Rattle.session_core.specs.Machine.{read_as}
use Rattle.session_core.specs.Journal.{says_end, until_end}

-- what the bytes of a line read as
abbrev pub read_bytes : List ℕ → WireStep
read_bytes bytes = read_as (read_message bytes)

-- the lines of a session of these bytes, `at_end` saying whether the input ends behind them
abbrev pub session_lines : Bool → List ℕ → List WireStep
session_lines at_end bytes = until_end (map read_bytes (lines_of at_end bytes))

-- one of the lines ends the session
abbrev pub has_end : List WireStep → Bool
has_end lines = list_any says_end lines

-- the bytes of replies
abbrev pub texts : List Out → List ℕ
texts outs = flat_map reply_text outs
