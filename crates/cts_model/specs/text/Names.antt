-- The names of the ISCAS'89 .bench format, with this project's choice of bytes and length.
use Rattle.std.specs.Prelude.{ℕ, Bool, not, ◌==◌, ◌&&◌, ◌||◌, nat_le, List, length}
use Rattle.std.specs.List.{list_all}

-- a byte that stands for itself between names: `(`, `)`, `,`, `=` or the `#` of a comment
abbrev pub is_mark : ℕ → Bool
is_mark byte = (byte == 40) || (byte == 41) || (byte == 44) || (byte == 61) || (byte == 35)

-- a byte of a name: a printable one other than the marks, or any above 127
abbrev pub is_name_byte : ℕ → Bool
is_name_byte byte = ((nat_le 33 byte && nat_le byte 126) || (nat_le 128 byte && nat_le byte 255))
    && not (is_mark byte)

-- one or more bytes of a name
abbrev pub is_name : List ℕ → Bool
is_name bytes = nat_le 1 (length bytes) && list_all is_name_byte bytes

-- a name that isn't too long
abbrev pub is_short : List ℕ → Bool
is_short name = nat_le (length name) 255
