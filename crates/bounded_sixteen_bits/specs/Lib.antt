pub mod SixteenBits
