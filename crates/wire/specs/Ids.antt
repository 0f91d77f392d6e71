-- Object ids. Assumes nothing.
use Rattle.std.specs.Prelude.{ℕ, ◌+◌, cond, ltb, Option, Some, None}

-- "New ids start where src/wire/backend.rs starts the server's"
abbrev pub first_server_id : ℕ
first_server_id = 0xff00_0000_0000_0000

-- refusal 20: "the next object id after the call would exceed 2^64 − 1"
unfoldable pub new_objects : (next count : ℕ) → Option ℕ
new_objects next count = cond (ltb 0xffff_ffff_ffff_ffff (next + count)) None (Some (next + count))
